use Rattle.std.proofs.Common.{◌≡◌, ℕ, ◌+◌, ◌<◌, ◌++◌, List, drop, length, slice_index}
use Rattle.base_types.specs.declared.posting.Posting.{Posting}
use Rattle.plans_partitions.specs.Counts.{Tabulates}
use Rattle.plans_partitions.specs.Partitions.{sizes}
use Rattle.plans_partitions.proofs.partition.sizes_between.Given as goal

abbrev pub invariant-loop-k : goal.invariant-loop-k
invariant-loop-k l = record {
  many : length l.sizes.items ≡ l.k;
  inside : l.at < length l.table.boundaries;
  here : slice_index l.table.boundaries l.at ≡ slice_index l.cuts l.k;
  left : (list : List Posting) (horizon : ℕ) → Tabulates list horizon l.table
      → l.sizes.items ++ sizes list (slice_index l.cuts l.k) (drop (l.k + 1) l.cuts) ≡ sizes list (slice_index l.cuts 0) (drop 1 l.cuts);
}
