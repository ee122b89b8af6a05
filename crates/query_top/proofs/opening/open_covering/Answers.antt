use Rattle.std.proofs.Common.{◌≡◌, ◌+◌, ◌-◌, ◌<◌, ◌≤◌, [], ℕ, List, max, length, get_or, arith, ap, sym, subst, refl, ◌∙◌}
use Rattle.query_top.specs.Sheets.{Sheet, sheet_at, no_head}
use Rattle.query_top.specs.Lanes.{Keeps, Stands}
use Rattle.query_top.specs.Opening.{Opened, Opens, run_of}
use Rattle.query_top.specs.declared.lane.Lane.{Lane}
use Rattle.query_top.proofs.LaneLemmas.{covers-tells}
use Rattle.query_top.proofs.OpenLemmas.{opens-more, run-more}
use Rattle.query_top.proofs.TakeLemmas.{lane-same, lane-joined, keeps-over, keeps-take, stands-same}
use Rattle.query_top.proofs.opening.open_covering.Goals as goal

pub loop-lane-init : goal.loop-lane-init
loop-lane-init g c =
    let e = c.pass_over.ensures in
    let from : ℕ = max c.args.lane.now.opened c.args.lane.now.cover in
    let o : c.pass_over.new.self.opened ≡ max c.args.lane.now.opened c.args.lane.now.cover = ap (λ (x : Lane). x.opened) e in
    let z : 0 ≡ c.pass_over.new.self.opened - max c.args.lane.now.opened c.args.lane.now.cover = omega (arith, o) in
    record {
      sheets = refl;
      same = lane-same c.args.lane.now c.pass_over.new.self _ e;
      from = omega (arith, o);
      to = omega (arith, o);
      cursor = subst (λ (x : Lane). x.cursor ≤ length x.hits.items) (sym e) c.requires.cursor;
      opens = subst (λ n. Opens g.B.Blocks.opens c.args.blocks.now (run_of c.args.word from n) c.args.blocks.now) z refl;
      keeps = λ at d sheet b k st. subst (λ (x : Lane). Keeps at (sheet_at (g.B.Blocks.sheets c.args.blocks.now) c.args.word) d x) (sym e) (keeps-over at (sheet_at (g.B.Blocks.sheets c.args.blocks.now) c.args.word) d c.args.lane.now sheet k);
    }

pub loop-lane-preserved : goal.loop-lane-preserved
loop-lane-preserved g c =
    let i = c.loop-lane.invariant in
    let t = c.in_ok-take-in-Ok.ensures in
    let s : Sheet = sheet_at (g.B.Blocks.sheets c.args.blocks.now) c.args.word in
    let from : ℕ = max c.args.lane.now.opened c.args.lane.now.cover in
    let after : c.loop-lane.lane.after ≡ c.args.lane.now.after = ap (λ (x : Lane). x.after) i.same in
    let go = c.loop-lane-test.true in
    let low = i.from in
    let test : c.loop-lane.lane.opened < c.args.lane.now.after = omega (arith, go, after) in
    let o : c.take.new.self.opened ≡ c.loop-lane.lane.opened + 1 = ap (λ (x : Lane). x.opened) t.same in
    let b = subst (λ (ss : List Sheet). c.in-Ok.postings.items ≡ get_or (sheet_at ss c.args.word).blocks c.loop-lane.lane.opened []) i.sheets c.in-Ok.ensures.postings in
    let one : max c.args.lane.now.opened c.args.lane.now.cover + (c.loop-lane.lane.opened - max c.args.lane.now.opened c.args.lane.now.cover) ≡ c.loop-lane.lane.opened = omega (arith, low) in
    let more : (c.loop-lane.lane.opened - max c.args.lane.now.opened c.args.lane.now.cover) + 1 ≡ c.take.new.self.opened - max c.args.lane.now.opened c.args.lane.now.cover = omega (arith, low, o) in
    let run = sym (run-more c.args.word from (c.loop-lane.lane.opened - from) c.loop-lane.lane.opened one) ∙ ap (run_of c.args.word from) more in
    record {
      sheets = c.in-Ok.ensures.same ∙ i.sheets;
      same = lane-joined c.args.lane.now c.loop-lane.lane c.take.new.self i.same t.same;
      from = omega (arith, low, o);
      to = omega (arith, test, o);
      cursor = t.cursor;
      opens = subst (λ (os : List Opened). Opens g.B.Blocks.opens c.args.blocks.now os c.open.new.self) run
          (opens-more g.B.Blocks.opens c.args.blocks.now c.loop-lane.blocks c.open.new.self (run_of c.args.word from (c.loop-lane.lane.opened - from)) c.args.word c.loop-lane.lane.opened c.in-Ok.postings i.opens c.in-Ok.ensures.call);
      keeps = λ at d sheet bord k st.
          let r = st.reaches in
          let inside : c.loop-lane.lane.opened < length s.heads = omega (arith, test, r) in
          let start = covers-tells d (get_or s.heads c.loop-lane.lane.opened no_head) (st.range d c.loop-lane.lane.opened (omega arith) bord (omega (arith, low)) test) in
          subst (λ (x : Lane). Keeps at s d x) (sym t.same) (keeps-take at s d c.loop-lane.lane c.take.new.self.hits c.take.new.self.cursor c.in-Ok.postings.items sheet (i.keeps at d sheet bord k st) inside start.0 b i.cursor t.hits);
    }

pub returns-clause-keeps : goal.returns-clause-keeps
returns-clause-keeps g c = λ at d sheet bord k st.
    let i = c.loop-lane.invariant in
    let to = i.to in
    let p = st.opened in
    let q = st.behind in
    (i.keeps at d sheet bord k st, subst (λ (x : Lane). Stands at (sheet_at (g.B.Blocks.sheets c.args.blocks.now) c.args.word) d x) (sym i.same) (stands-same at (sheet_at (g.B.Blocks.sheets c.args.blocks.now) c.args.word) d c.args.lane.now _ _ _ (omega (arith, to, p, q)) st))
