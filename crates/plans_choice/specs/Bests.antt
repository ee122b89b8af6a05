-- Best partitions of a table's lists.
use Rattle.std.specs.Prelude.{◌≡◌, ◌≤◌, ℕ, List, drop, length, slice_index, Option, Some, None}
use Rattle.base_types.specs.declared.posting.Posting.{Posting}
use Rattle.base_types.specs.declared.fraction.Fraction.{Fraction}
use Rattle.base_commands.specs.declared.command.Kind.{Kind}
use Rattle.base_commands.specs.declared.command.Kind.TheVariants.{Guarantee, Uniform, Since}
use Rattle.plans_partitions.specs.Counts.{Counts, Tabulates}
use Rattle.plans_partitions.specs.Partitions.{IsLeast, widest}
use Rattle.plans_space.specs.Costs.{expected_cost}
use Rattle.plans_space.specs.Loads.{weights_by}
use Rattle.plans_space.specs.Plans.{IsBestUnder}
use Rattle.plans_kinds.specs.Plans.{each_second, each_second_since}

-- The partition is a best one under this load for each list that the table tabulates, and its reads are expected to cost so much.
abbrev pub IsBestFor : (ℕ → ℕ → ℕ) → Counts → Fraction → List ℕ → ℕ → Type 0
IsBestFor load table factor cuts cost =
    (list : List Posting) (horizon : ℕ) → Tabulates list horizon table
    → IsBestUnder list table.boundaries (weights_by load table.boundaries) factor (slice_index cuts 0) horizon (drop 1 cuts)
    × (cost ≡ expected_cost list (slice_index cuts 0) (drop 1 cuts) table.boundaries (weights_by load table.boundaries))

-- The partition, with this cost, is what the kind promises: a least one for each list that the table tabulates, where it has few enough boundaries; or
-- a best one under the load.
abbrev pub IsChosenFor : Kind → Counts → Fraction → List ℕ → Option ℕ → Type 0
IsChosenFor Guarantee table factor cuts cost =
    (cost ≡ None) × (length table.boundaries ≤ widest)
    × ((list : List Posting) (horizon : ℕ) → Tabulates list horizon table
    → IsLeast list factor (slice_index cuts 0) (drop 1 cuts) horizon)
IsChosenFor Uniform table factor cuts cost = (n : ℕ) × (cost ≡ Some n) × IsBestFor each_second table factor cuts n
IsChosenFor (Since at) table factor cuts cost = (n : ℕ) × (cost ≡ Some n) × IsBestFor (each_second_since at.seconds) table factor cuts n
