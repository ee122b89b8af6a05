use Rattle.std.proofs.Common.{ℕ, ◌*◌, ◌<◌, ◌≤◌}
use Rattle.plans_partitions.specs.Counts.{alive_in}
use Rattle.plans_partitions.proofs.partition.is_admissible_between.Given as goal

abbrev pub invariant-loop-i : goal.invariant-loop-i
invariant-loop-i l = (m : ℕ) → l.j ≤ m → m < l.i → l.size * l.factor.under ≤ l.factor.over * alive_in l.table m
