use Rattle.std.proofs.Common.{ℕ, ◌+◌, ◌<◌, ◌≤◌, slice_index}
use Rattle.plans_partitions.proofs.partition.ascends.Given as goal

abbrev pub invariant-loop-k : goal.invariant-loop-k
invariant-loop-k l = record { some : 1 ≤ l.k; ascending : (i : ℕ) → i + 1 < l.k → slice_index l.numbers i < slice_index l.numbers (i + 1) }
