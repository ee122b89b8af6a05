use Rattle.std.specs.List.{AllZip}
use Rattle.std.proofs.Common.{◌≡◌, ◌⊎◌, ◌<◌, ◌≤◌, ◌+◌, ◌-◌, ◌^◌, ◌++◌, [], true, ℕ, List, length, take, get_or, length-take, arith, refl, ap, sym, subst, inl, inr, ◌∙◌}
use Rattle.query_top.specs.Sheets.{Sheet, IsSheet, score}
use Rattle.query_top.specs.Firsts.{Each, AreRanked, AreFirst, below, shows, no_row}
use Rattle.query_top.specs.Lanes.{HasCursor, AreAscending, given, weights_of, IsFit, Lies, IsOpened, IsPassed}
use Rattle.query_top.specs.Opening.{Opened}
use Rattle.query_top.specs.Steps.{runs, AreThrough}
use Rattle.query_top.specs.declared.lane.Lane.{Lane}
use Rattle.query_top.specs.declared.ranking.Row.{Row}
use Rattle.query_top.proofs.EachLemmas.{each-weaker}
use Rattle.query_top.proofs.RankLemmas.{pass-first}
use Rattle.query_top.proofs.RunLemmas.{append-empty}
use Rattle.query_top.proofs.ScoreLemmas.{IsOpen, given-score, score-light, weights-same}
use Rattle.query_top.proofs.StepLemmas.{through-surveyed, through-passed, through-opened, through-scored, fit-opened, fit-passed}
use Rattle.query_top.proofs.ZipLemmas.{zip-and, zip-with, zip-each, zip-long, zip-through, each-over}
use Rattle.query_top.proofs.top.step.Goals as goal

pub returns-then-is_passed-clause-through : goal.returns-then-is_passed-clause-through
returns-then-is_passed-clause-through g c = (
  [],
  refl,
  λ os sheets t.
      let v = c.survey-view.ensures in
      let one = through-surveyed c.args.at.seconds (weights_of c.args.lanes.now) (g.B.Blocks.sheets c.args.blocks.now) c.args.count c.args.d c.args.lanes.now c.survey-view.new.lanes c.args.rows.now.items os (v.lies c.args.at.seconds sheets t.lies) v.opened t in
      let which = subst (λ (rows : List Row). length rows ≤ c.args.count → AreRanked rows → (c.survey-view.result.top ≡ 0) ⊎ ((length rows ≡ c.args.count) × Each (λ r. c.survey-view.result.top ≤ r.score) rows)) c.deref.ensures.value (c.if-is_passed.ensures.yes refl) c.requires.few t.first.ranked in
      let far = v.far.0 in
      subst (λ (q : List Opened). AreThrough c.args.at.seconds (weights_of c.args.lanes.now) (g.B.Blocks.sheets c.args.blocks.now) c.args.count c.survey-view.result.border c.survey-view.new.lanes c.args.rows.now.items q) (sym (append-empty os))
      (through-passed c.args.at.seconds (weights_of c.args.lanes.now) (g.B.Blocks.sheets c.args.blocks.now) c.args.count c.args.d c.survey-view.result.border c.survey-view.result.top c.survey-view.new.lanes c.args.rows.now.items os
      (omega (arith, far)) (each-weaker (λ k. (c.survey-view.result.border ≤ k.border) × (c.survey-view.result.start ≤ k.start)) (λ k. c.survey-view.result.border ≤ k.border) (λ k b. b.0) c.survey-view.new.lanes v.border) (sym v.weights) v.top which one),
)

pub score_all-requires-clause-fit : goal.score_all-requires-clause-fit
score_all-requires-clause-fit g c = zip-each IsOpened HasCursor (λ a b o. o.cursor) c.survey-view.new.lanes c.open_all.new.lanes c.in_ok-open_all.ensures.opened

pub returns-clause-fit : goal.returns-clause-fit
returns-clause-fit g c =
    let window : List ℕ = take (c.min-end.result - c.max-from.result) c.args.sums.now in
    zip-through (λ (s : Sheet) (k : Lane). IsFit (length s.heads) k) (IsPassed c.args.at.seconds (c.max-from.result + length window)) (λ (s : Sheet) (k : Lane). IsFit (length s.heads) k)
    (λ s a b f p. fit-passed (length s.heads) c.args.at.seconds (c.max-from.result + length window) a b f p)
    (g.B.Blocks.sheets c.args.blocks.now) c.open_all.new.lanes c.score_all.new.lanes
    (zip-through (λ (s : Sheet) (k : Lane). IsFit (length s.heads) k) IsOpened (λ (s : Sheet) (k : Lane). IsFit (length s.heads) k) (λ s a b f o. fit-opened (length s.heads) a b f o)
    (g.B.Blocks.sheets c.args.blocks.now) c.survey-view.new.lanes c.open_all.new.lanes c.survey-view.ensures.fit c.in_ok-open_all.ensures.opened)
    c.in_ok-score_all.ensures.passed

pub returns-clause-weights : goal.returns-clause-weights
returns-clause-weights g c =
    let window : List ℕ = take (c.min-end.result - c.max-from.result) c.args.sums.now in
    weights-same (IsPassed c.args.at.seconds (c.max-from.result + length window)) (λ a b p. ap (λ (x : Lane). x.weight) p.same) c.open_all.new.lanes c.score_all.new.lanes c.in_ok-score_all.ensures.passed
    ∙ weights-same IsOpened (λ a b o. ap (λ (x : Lane). x.weight) o.same) c.survey-view.new.lanes c.open_all.new.lanes c.in_ok-open_all.ensures.opened ∙ c.survey-view.ensures.weights

pub returns-clause-through : goal.returns-clause-through
returns-clause-through g c = (
  runs 0 c.survey-view.new.lanes,
  c.in_ok-open_all.ensures.opens,
  λ os sheets t.
      let v = c.survey-view.ensures in
      let o = c.in_ok-open_all.ensures in
      let far = v.far.0 in
      let border = each-weaker (λ k. (c.survey-view.result.border ≤ k.border) × (c.survey-view.result.start ≤ k.start)) (λ k. c.args.d < k.border) (λ k b. let n = b.0 in omega (arith, n, far)) c.survey-view.new.lanes v.border in
      let one = through-surveyed c.args.at.seconds (weights_of c.args.lanes.now) (g.B.Blocks.sheets c.args.blocks.now) c.args.count c.args.d c.args.lanes.now c.survey-view.new.lanes c.args.rows.now.items os (v.lies c.args.at.seconds sheets t.lies) v.opened t in
      let no = subst (λ (rows : List Row). (length rows < c.args.count) ⊎ ((get_or rows (c.args.count - 1) no_row).score < c.survey-view.result.top)) c.deref.ensures.value (c.if-is_passed.ensures.no refl).1 in
      let lies = o.lies c.args.at.seconds c.args.d sheets border one.lies in
      let two = through-opened c.args.at.seconds (weights_of c.args.lanes.now) (g.B.Blocks.sheets c.args.blocks.now) c.args.count c.args.d c.survey-view.result.top c.survey-view.new.lanes c.open_all.new.lanes c.args.rows.now.items os
      c.requires.some sheets (sym v.weights) v.top border (c.if-is_passed.ensures.no refl).0 no o.opened lies one in
      let near = each-over IsOpened (λ (k : Lane). c.args.d < k.border) (λ (k : Lane). c.args.d < k.border) (λ a b r m. let e : b.border ≡ a.border = ap (λ (x : Lane). x.border) r.same in omega (arith, e, m)) c.survey-view.new.lanes c.open_all.new.lanes o.opened border in
      let min = c.min-end.ensures in
      let ready = each-over IsOpened (λ (k : Lane). (c.survey-view.result.border ≤ k.border) × (c.survey-view.result.start ≤ k.start)) (λ (k : Lane). (k.after ≤ k.opened) × (c.min-end.result ≤ k.start))
      (λ a b r m. let p : b.opened ≡ _ = ap (λ (x : Lane). x.opened) r.same in let q : b.after ≡ a.after = ap (λ (x : Lane). x.after) r.same in let s : b.start ≡ a.start = ap (λ (x : Lane). x.start) r.same in let n = m.1 in (omega (arith, p, q), omega (arith, s, n, min)))
      c.survey-view.new.lanes c.open_all.new.lanes o.opened v.border in
      let opens = zip-with (IsSheet c.args.at.seconds) (λ (s : Sheet) (k : Lane). (Lies c.args.at.seconds s c.args.d k × (c.args.d < k.border)) × ((k.after ≤ k.opened) × (c.min-end.result ≤ k.start))) (IsOpen c.args.at.seconds c.args.d c.min-end.result)
      (λ s k sheet z. record { sheet = sheet; lies = z.0.0; near = z.0.1; opened = z.1.0; start = z.1.1 }) (g.B.Blocks.sheets c.args.blocks.now) c.open_all.new.lanes sheets
      (zip-and (λ (s : Sheet) (k : Lane). Lies c.args.at.seconds s c.args.d k × (c.args.d < k.border)) (λ k. (k.after ≤ k.opened) × (c.min-end.result ≤ k.start)) (g.B.Blocks.sheets c.args.blocks.now) c.open_all.new.lanes
      (zip-and (λ (s : Sheet) (k : Lane). Lies c.args.at.seconds s c.args.d k) (λ k. c.args.d < k.border) (g.B.Blocks.sheets c.args.blocks.now) c.open_all.new.lanes lies near) ready) in
      let f = c.in_ok-score_all.ensures in
      let all = c.requires.window in
      let cut : length (take (c.min-end.result - c.max-from.result) c.args.sums.now) ≡ _ = length-take (c.min-end.result - c.max-from.result) c.args.sums.now in
      let start = v.far.1 in
      let until = c.next_of.ensures.until in
      let from = c.max-from.ensures in
      let end : c.max-from.result + length (take (c.min-end.result - c.max-from.result) c.args.sums.now) ≡ c.min-end.result = omega (arith, cut, all, min, far, start, from, until) in
      let fit = zip-through (λ (s : Sheet) (k : Lane). IsFit (length s.heads) k) IsOpened (λ (s : Sheet) (k : Lane). IsFit (length s.heads) k) (λ s a b q r. fit-opened (length s.heads) a b q r)
      (g.B.Blocks.sheets c.args.blocks.now) c.survey-view.new.lanes c.open_all.new.lanes v.fit o.opened in
      let weights : weights_of c.open_all.new.lanes ≡ weights_of c.args.lanes.now = weights-same IsOpened (λ a b r. ap (λ (x : Lane). x.weight) r.same) c.survey-view.new.lanes c.open_all.new.lanes o.opened ∙ v.weights in
      let words : length c.open_all.new.lanes ≤ 4096 = let n = zip-long IsOpened c.survey-view.new.lanes c.open_all.new.lanes o.opened in let m = c.survey-view.auto.lanes in let w = c.requires.words in omega (arith, n, m, w) in
      let is = subst (λ (ws : List ℕ). (x : ℕ) → c.args.d ≤ x → x < c.min-end.result → score c.args.at.seconds ws (g.B.Blocks.sheets c.args.blocks.now) x ≡ given c.args.at.seconds x c.open_all.new.lanes) weights
      (λ x a b. given-score c.args.at.seconds c.args.d c.min-end.result x (g.B.Blocks.sheets c.args.blocks.now) c.open_all.new.lanes opens a b) in
      let light = subst (λ (ws : List ℕ). (x : ℕ) → score c.args.at.seconds ws (g.B.Blocks.sheets c.args.blocks.now) x < 2 ^ 64) weights
      (λ x. score-light c.args.at.seconds x (g.B.Blocks.sheets c.args.blocks.now) c.open_all.new.lanes fit words) in
      let ascends = zip-each (λ (s : Sheet) (k : Lane). Lies c.args.at.seconds s c.args.d k) (λ k. AreAscending k.hits.items) (λ s k z. z.keeps.ascending) (g.B.Blocks.sheets c.args.blocks.now) c.open_all.new.lanes lies in
      let empty = pass-first (score c.args.at.seconds (weights_of c.args.lanes.now) (g.B.Blocks.sheets c.args.blocks.now)) c.args.count c.args.d c.max-from.result c.args.rows.now.items (omega (arith, from)) two.first
      (λ x a b p. absurd (let e = is x a (omega (arith, b, end)) in let z = c.next_of.ensures.none ascends c.args.at.seconds x (omega (arith, a, b, from)) in omega (arith, e, z, p))) in
      let first = subst (λ n. AreFirst (below n (score c.args.at.seconds (weights_of c.args.lanes.now) (g.B.Blocks.sheets c.args.blocks.now))) c.args.count c.score_all.new.rows.items) end
      (f.first (score c.args.at.seconds (weights_of c.args.lanes.now) (g.B.Blocks.sheets c.args.blocks.now)) ascends (λ k l. (is (c.max-from.result + k) (omega (arith, from)) (omega (arith, l, end)), light (c.max-from.result + k))) empty) in
      let seen = subst (λ n. (x : ℕ) → shows c.score_all.new.rows.items x ≡ true → (shows c.args.rows.now.items x ≡ true) ⊎ ((c.max-from.result ≤ x) × (x < n))) end f.shown in
      through-scored c.args.at.seconds (weights_of c.args.lanes.now) (g.B.Blocks.sheets c.args.blocks.now) c.args.count c.args.d c.min-end.result c.open_all.new.lanes c.score_all.new.lanes c.args.rows.now.items c.score_all.new.rows.items (os ++ runs 0 c.survey-view.new.lanes)
      sheets (omega (arith, from, end)) near ready (subst (λ n. AllZip (IsPassed c.args.at.seconds n) c.open_all.new.lanes c.score_all.new.lanes) end f.passed) first
      (λ x h. elim (seen x h) [ inl k ↦ inl k | inr k ↦ inr (omega (arith, k.0, from), k.1) ]) two,
)
