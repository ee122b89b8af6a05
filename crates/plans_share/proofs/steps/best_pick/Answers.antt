use Rattle.std.proofs.Common.{sym, ap, ◌∙◌}
use Rattle.plans_share.specs.Choices.{picked}
use Rattle.plans_share.specs.Steps.{through}
use Rattle.plans_share.proofs.steps.best_pick.Goals as goal

pub loop-pick-preserved : goal.loop-pick-preserved
loop-pick-preserved c = c.better-best.ensures (λ k. through c.args.below.now (picked c.args.offer.now k) c.args.c) (sym (c.through.ensures ∙ ap (λ p. through c.args.below.now p c.args.c) c.point.ensures)) c.loop-pick.invariant
