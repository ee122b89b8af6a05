use Rattle.std.proofs.Common.{ℕ, ◌+◌}
use Rattle.plans_space.specs.Costs.{along}
use Rattle.plans_space.specs.Steps.{AreCells, ArePoints, Falls, IsLeastBefore}
use Rattle.plans_space.proofs.fronts.points_of.Given as goal

abbrev pub invariant-loop-c : goal.invariant-loop-c
invariant-loop-c l = (charge cost : ℕ → ℕ → ℕ) → AreCells charge cost l.width l.cells (l.stop + 1) → ArePoints charge cost l.stop l.c l.points.items × IsLeastBefore (Falls l.stop) (along charge l.stop) (along cost l.stop) l.c l.before
