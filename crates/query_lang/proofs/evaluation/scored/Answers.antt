use Rattle.std.proofs.Common.{arith}
use Rattle.query_lang.proofs.NumberLemmas.{scored-step}
use Rattle.query_lang.proofs.evaluation.scored.Goals as goal

pub loop-place-preserved : goal.loop-place-preserved
loop-place-preserved c =
    let s = scored-step c.args.weights.now c.args.counts.now c.loop-place.place (omega (arith, c.requires.same)) (omega arith) in
    let n = c.weighed-score.ensures in
    (omega (arith, s, n.value, c.loop-place.invariant.0), omega (arith, n.small, c.loop-place.invariant.1))
