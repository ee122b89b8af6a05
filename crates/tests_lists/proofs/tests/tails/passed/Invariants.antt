use Rattle.lists_tails.specs.Weights.{AreWeights}
use Rattle.tests_lists.proofs.tests.tails.passed.Given as goal

abbrev pub invariant-loop-at : goal.invariant-loop-at
invariant-loop-at g l = AreWeights l.old.items
