use Rattle.std.proofs.Common.{◌≡◌, ℕ, ◌+◌, ◌*◌, ◌^◌, ◌≤◌, List, drop}
use Rattle.std.specs.Prelude.{slice_index}
use Rattle.base_types.specs.declared.posting.Posting.{Posting}
use Rattle.plans_partitions.specs.Counts.{Tabulates}
use Rattle.plans_partitions.specs.Partitions.{space}
use Rattle.plans_kinds.proofs.capping.space_of.Given as goal

abbrev pub invariant-loop-k : goal.invariant-loop-k
invariant-loop-k l = record {
  left : (list : List Posting) (horizon : ℕ) → Tabulates list horizon l.table → l.total + space list (slice_index l.cuts l.k) (drop (l.k + 1) l.cuts) ≡ space list (slice_index l.cuts 0) (drop 1 l.cuts);
  bound : l.total ≤ l.k * 2 ^ 38;
}
