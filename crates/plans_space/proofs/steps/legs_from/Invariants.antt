use Rattle.plans_space.specs.Steps.{AreLegs}
use Rattle.plans_space.proofs.steps.legs_from.Given as goal

abbrev pub invariant-loop-j : goal.invariant-loop-j
invariant-loop-j l = AreLegs l.table l.limits.unit l.sums l.places l.i l.j l.charges.items l.costs.items
