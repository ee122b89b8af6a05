use Rattle.std.proofs.Common.{arith}
use Rattle.query_top.proofs.RankLemmas.{ranked-high, low-more}
use Rattle.query_top.proofs.ranking.place_of.Goals as goal

pub returns-then-rows-place-clause-high : goal.returns-then-rows-place-clause-high
returns-then-rows-place-clause-high c = λ k. ranked-high c.args.rows.now _ c.loop-place.place c.args.score _ (let h = c.loop-place-test.true in omega arith) (let h = c.loop-place-test.true in let i = c.loop-place.invariant.0 in omega arith) c.if-rows-place.true k

pub loop-place-preserved : goal.loop-place-preserved
loop-place-preserved c =
    let h = c.loop-place-test.true in let i = c.loop-place.invariant.0 in
    (omega arith, low-more c.args.rows.now _ c.loop-place.place c.args.score _ (omega arith) i c.if-rows-place.false c.loop-place.invariant.1)
