use Rattle.std.proofs.Common.{◌≡◌, ◌<◌, ◌≤◌, List, length, take, get_or, arith, rules, ap, sym, subst, ◌∙◌}
use Rattle.query_top.specs.Sheets.{Sheet, IsSheet, no_sheet, sheet_at}
use Rattle.query_top.specs.Lanes.{IsFit, Lies, Keeps, Stands, IsOpened}
use Rattle.query_top.specs.Opening.{Opened, Opens}
use Rattle.query_top.specs.Steps.{runs}
use Rattle.query_top.specs.declared.lane.Lane.{Lane}
use Rattle.query_top.proofs.EachLemmas.{each-at}
use Rattle.query_top.proofs.LoopLemmas.{left-set, left-at, zip-turn, fit-left}
use Rattle.query_top.proofs.RunLemmas.{opens-join, fault-join, runs-more}
use Rattle.query_top.proofs.ZipLemmas.{zip-at, zip-set, zip-long}
use Rattle.query_top.proofs.lanes.open_all.Goals as goal

pub open_covering-requires-clause-word : goal.open_covering-requires-clause-word
open_covering-requires-clause-word g c =
    let i = c.loop-lane.invariant in
    let test = c.loop-lane-test.true in
    let long = c.loop-lane.auto.lanes in
    let word = i.word in
    let n = zip-long (λ s k. IsFit (length s.heads) k) (g.B.Blocks.sheets c.args.blocks.now) c.args.lanes.now c.requires.fit in
    subst (λ (ss : List Sheet). c.loop-lane.word < length ss) (sym i.sheets) (omega arith)

pub open_covering-requires-clause-reaches : goal.open_covering-requires-clause-reaches
open_covering-requires-clause-reaches g c =
    let i = c.loop-lane.invariant in
    let test = c.loop-lane-test.true in
    let long = c.loop-lane.auto.lanes in
    let here : c.loop-lane.lane-index < length c.loop-lane.lanes = omega arith in
    let there : c.loop-lane.lane-index < length c.args.lanes.now = omega arith in
    let fit = fit-left (g.B.Blocks.sheets c.args.blocks.now) c.loop-lane.lane-index c.loop-lane.lanes c.args.lanes.now c.lane-item.result here there i.todo c.lane-item.is c.requires.fit in
    subst (λ (ss : List Sheet). (get_or c.loop-lane.lanes c.loop-lane.lane-index c.lane-item.result).after ≤ length (sheet_at ss c.loop-lane.word).heads) (sym i.sheets)
    (subst (λ n. (get_or c.loop-lane.lanes c.loop-lane.lane-index c.lane-item.result).after ≤ length (sheet_at (g.B.Blocks.sheets c.args.blocks.now) n).heads) (sym i.word) fit.reaches)

pub open_covering-requires-clause-cursor : goal.open_covering-requires-clause-cursor
open_covering-requires-clause-cursor g c =
    let i = c.loop-lane.invariant in
    let test = c.loop-lane-test.true in
    let long = c.loop-lane.auto.lanes in
    let here : c.loop-lane.lane-index < length c.loop-lane.lanes = omega arith in
    let there : c.loop-lane.lane-index < length c.args.lanes.now = omega arith in
    (fit-left (g.B.Blocks.sheets c.args.blocks.now) c.loop-lane.lane-index c.loop-lane.lanes c.args.lanes.now c.lane-item.result here there i.todo c.lane-item.is c.requires.fit).cursor

pub returns-in_err-open_covering-clause-fault : goal.returns-in_err-open_covering-clause-fault
returns-in_err-open_covering-clause-fault g c = λ e is.
    fault-join g.B.Blocks.opens c.args.blocks.now c.loop-lane.blocks c.open_covering.new.blocks e (runs 0 (take c.loop-lane.lane-index c.args.lanes.now)) c.loop-lane.invariant.opens (search rules)

pub loop-lane-preserved : goal.loop-lane-preserved
loop-lane-preserved g c =
    let i = c.loop-lane.invariant in
    let o = c.in_ok-open_covering.ensures in
    let test = c.loop-lane-test.true in
    let long = c.loop-lane.auto.lanes in
    let word = i.word in
    let here : c.loop-lane.lane-index < length c.loop-lane.lanes = omega arith in
    let there : c.loop-lane.lane-index < length c.args.lanes.now = omega arith in
    let n = zip-long (λ s k. IsFit (length s.heads) k) (g.B.Blocks.sheets c.args.blocks.now) c.args.lanes.now c.requires.fit in
    let inside : c.loop-lane.lane-index < length (g.B.Blocks.sheets c.args.blocks.now) = omega arith in
    let was = left-at c.loop-lane.lane-index c.loop-lane.lanes c.args.lanes.now c.lane-item.result here there i.todo c.lane-item.is in
    let sheet : sheet_at (g.B.Blocks.sheets c.loop-lane.blocks) c.loop-lane.word ≡ get_or (g.B.Blocks.sheets c.args.blocks.now) c.loop-lane.lane-index no_sheet
    = ap (λ (ss : List Sheet). sheet_at ss c.loop-lane.word) i.sheets ∙ ap (sheet_at (g.B.Blocks.sheets c.args.blocks.now)) i.word in
    let one : IsOpened (get_or c.loop-lane.lanes c.loop-lane.lane-index c.lane-item.result) c.open_covering.new.lane = record {
      same = o.same ∙ ap (λ m. record (get_or c.loop-lane.lanes c.loop-lane.lane-index c.lane-item.result) { opened = m; hits = c.open_covering.new.lane.hits; cursor = c.open_covering.new.lane.cursor }) o.opened;
      cursor = o.cursor;
    } in
    let run = runs-more c.loop-lane.lane-index c.loop-lane.word c.args.lanes.now c.lane-item.result (get_or c.loop-lane.lanes c.loop-lane.lane-index c.lane-item.result) there word (sym c.lane-item.is ∙ was) in
    record {
      word = omega (arith, word);
      sheets = o.sheets ∙ i.sheets;
      todo = left-set c.loop-lane.lane-index c.loop-lane.lanes c.args.lanes.now c.open_covering.new.lane c.lane-item.result here there i.todo;
      opens = subst (λ (os : List Opened). Opens g.B.Blocks.opens c.args.blocks.now os c.open_covering.new.blocks) (sym run)
          (opens-join g.B.Blocks.opens c.args.blocks.now c.loop-lane.blocks c.open_covering.new.blocks (runs 0 (take c.loop-lane.lane-index c.args.lanes.now)) _ i.opens o.opens);
      opened = zip-turn IsOpened c.loop-lane.lane-index c.loop-lane.lanes c.args.lanes.now c.lane-item.result c.open_covering.new.lane here there i.todo c.lane-item.is one i.opened;
      lies = λ at d sheets border k.
          let lies = zip-at (λ s l. Lies at s d l) (g.B.Blocks.sheets c.args.blocks.now) c.loop-lane.lanes c.loop-lane.lane-index no_sheet c.lane-item.result (i.lies at d sheets border k) here in
          let near = subst (λ (x : Lane). d < x.border) (sym was ∙ c.lane-item.is) (each-at (λ l. d < l.border) c.loop-lane.lane-index c.args.lanes.now c.lane-item.result there border) in
          let both = subst (λ (s : Sheet). IsSheet at s → d < (get_or c.loop-lane.lanes c.loop-lane.lane-index c.lane-item.result).border → Keeps at s d (get_or c.loop-lane.lanes c.loop-lane.lane-index c.lane-item.result) → Stands at s d (get_or c.loop-lane.lanes c.loop-lane.lane-index c.lane-item.result) → Keeps at s d c.open_covering.new.lane × Stands at s d c.open_covering.new.lane) sheet (o.keeps at d)
          (each-at (IsSheet at) c.loop-lane.lane-index (g.B.Blocks.sheets c.args.blocks.now) no_sheet inside sheets) near lies.keeps (lies.stands near) in
          zip-set (λ s l. Lies at s d l) (g.B.Blocks.sheets c.args.blocks.now) c.loop-lane.lanes c.loop-lane.lane-index no_sheet c.open_covering.new.lane (i.lies at d sheets border k) here (record { keeps = both.0; stands = λ _. both.1 });
    }
