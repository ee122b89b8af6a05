use Rattle.plans_space.specs.Steps.{through, IsBestOf}
use Rattle.plans_space.proofs.steps.best_next.Given as goal

abbrev pub invariant-loop-j : goal.invariant-loop-j
invariant-loop-j l = IsBestOf (through l.cells l.width l.legs.charges.items l.legs.costs.items l.c) l.j l.best
