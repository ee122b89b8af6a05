use Rattle.std.proofs.Common.{◌≡◌, ◌↔◌, ℕ, ◌+◌, ◌-◌, ◌<◌, List, length, drop, slice_index}
use Rattle.base_types.specs.declared.posting.Posting.{Posting}
use Rattle.plans_partitions.specs.Counts.{Tabulates}
use Rattle.plans_partitions.specs.Partitions.{Covers}
use Rattle.plans_partitions.proofs.partition.are_admissible.Given as goal

abbrev pub invariant-loop-k : goal.invariant-loop-k
invariant-loop-k l = record {
  inside : l.at < length l.table.boundaries;
  here : slice_index l.table.boundaries l.at ≡ slice_index l.cuts l.k;
  left : (list : List Posting) (horizon : ℕ) → Tabulates list horizon l.table
      → Covers list l.factor (slice_index l.cuts l.k) (drop (l.k + 1) l.cuts) (slice_index l.cuts (length l.cuts - 1)) ↔ Covers list l.factor (slice_index l.cuts 0) (drop 1 l.cuts) (slice_index l.cuts (length l.cuts - 1));
}
