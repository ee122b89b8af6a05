use Rattle.std.proofs.Common.{arith, ap, ◌∙◌}
use Rattle.std.proofs.lemmas.List.{take_all}
use Rattle.std.specs.List.{filter_map}
use Rattle.query_eval.specs.Found.{row_of}
use Rattle.query_eval.proofs.FoundLemmas.{get-any, made-more}
use Rattle.query_eval.proofs.found.rows_of.Goals as goal

pub loop-i-preserved : goal.loop-i-preserved
loop-i-preserved c = λ often tell.
    made-more (λ doc. row_of c.args.query.now (often doc) doc) c.args.alive.now c.loop-i.i _ c.loop-i.rows.items _ _ (omega arith)
    (get-any c.args.alive.now c.loop-i.i _ _ (omega arith)) (c.loop-i.invariant often tell) (c.in_ok-row.ensures often tell) c.in_ok-put.ensures

pub returns : goal.returns
returns c = λ often tell. c.loop-i.invariant often tell ∙ ap (filter_map (λ doc. row_of c.args.query.now (often doc) doc)) (take_all c.loop-i.i c.args.alive.now (omega arith))
