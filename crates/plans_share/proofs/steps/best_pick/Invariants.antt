use Rattle.plans_share.specs.Choices.{picked}
use Rattle.plans_share.specs.Steps.{through, IsBestPick}
use Rattle.plans_share.proofs.steps.best_pick.Given as goal

abbrev pub invariant-loop-pick : goal.invariant-loop-pick
invariant-loop-pick l = IsBestPick (λ k. through l.below (picked l.offer k) l.c) l.pick l.best
