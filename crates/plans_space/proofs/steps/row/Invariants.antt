use Rattle.plans_space.specs.Steps.{IsRow}
use Rattle.plans_space.proofs.steps.row.Given as goal

abbrev pub invariant-loop-j : goal.invariant-loop-j
invariant-loop-j l = IsRow l.cells l.fn.width l.legs.charges.items l.legs.costs.items l.row.items l.j
