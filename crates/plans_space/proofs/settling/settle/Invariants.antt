use Rattle.std.proofs.Common.{◌<◌}
use Rattle.plans_space.specs.Steps.{AreCells, leg_charge, leg_cost}
use Rattle.plans_space.proofs.settling.settle.Given as goal

abbrev pub invariant-loop-i : goal.invariant-loop-i
invariant-loop-i l = record { some : 0 < l.i; cells : AreCells (leg_charge l.table l.limits.unit l.places) (leg_cost l.table l.sums l.places) l.width l.cells.items l.i }
