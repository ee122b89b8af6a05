use Rattle.std.proofs.Common.{arith, refl}
use Rattle.plans_space.proofs.LeastLemmas.{least_more}
use Rattle.plans_space.proofs.steps.lower_by.Goals as goal

pub returns : goal.returns
returns c k l h = rw (c.loop-c.invariant.lowered k (omega arith)) (least_more _ c.args.j _ _ refl h)
