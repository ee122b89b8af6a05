use Rattle.std.proofs.Common.{◌∙◌, arith}
use Rattle.query_lang.proofs.NumberLemmas.{noted-more}
use Rattle.query_lang.proofs.evaluation.weights_of.Goals as goal

pub loop-op-preserved : goal.loop-op-preserved
loop-op-preserved c =
    let i = c.loop-op.invariant in
    record {
      count = c.note.ensures.count ∙ i.count;
      weights = λ k l. noted-more k c.args.ops.now c.loop-op.op-index _ _ _ c.loop-op-test.true (c.note.ensures.weights k (omega (arith, l, i.count))) (i.weights k l);
    }
