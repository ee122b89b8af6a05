use Rattle.std.proofs.Common.{◌≡◌, ℕ, ◌+◌, ◌<◌, length, Contains, slice_index}
use Rattle.plans_partitions.proofs.partition.are_among.Given as goal

abbrev pub invariant-loop-k : goal.invariant-loop-k
invariant-loop-k l = record {
  inside : l.at < length l.times;
  here : slice_index l.times l.at ≡ slice_index l.cuts l.k;
  among : (m : ℕ) → m < l.k + 1 → Contains l.times (slice_index l.cuts m);
}
