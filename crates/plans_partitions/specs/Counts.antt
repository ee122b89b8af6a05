-- What a table holds of a list: its boundaries, and at each how many postings have begun before it and ended by it.
use Rattle.std.specs.Prelude.{◌≡◌, ℕ, ◌+◌, ◌*◌, ◌-◌, ◌^◌, ◌<◌, ◌≤◌, List, map, length, slice_index, All}
use Rattle.std.specs.List.Sorted.{IsStrictlyIncreasing, IsNonDecreasing}
use Rattle.base_types.specs.declared.posting.Posting.{Posting}
use Rattle.base_types.specs.declared.fraction.Fraction.{Fraction}
use Rattle.lists_postings.specs.Sizes.{begun, ended}
use Rattle.plans_partitions.specs.Boundaries.{AreBoundaries}

-- The boundaries, and for each the numbers of postings that begin before it and that have ended at it.
pub record Counts : Type 0 where
  pub boundaries : List ℕ
  pub begun : List ℕ
  pub ended : List ℕ

-- The size of the sublist between boundaries j and k.
abbrev pub size_between : Counts → ℕ → ℕ → ℕ
size_between table j k = slice_index table.begun k - slice_index table.ended j

-- The size of elementary interval k: the number of postings that are alive in it.
abbrev pub alive_in : Counts → ℕ → ℕ
alive_in table k = slice_index table.begun (k + 1) - slice_index table.ended k

-- What holds of the counts of every table.
pub record AreOrdered (boundaries begun ended : List ℕ) : Type 0 where
  pub many : 2 ≤ length boundaries
  pub ascending : IsStrictlyIncreasing boundaries
  pub in_time : All (λ x. x < 2 ^ 40) boundaries
  pub begun_each : length begun ≡ length boundaries
  pub ended_each : length ended ≡ length boundaries
  pub begun_rises : IsNonDecreasing begun
  pub ended_rises : IsNonDecreasing ended
  pub paired : (j k : ℕ) → j ≤ k → k < length boundaries → slice_index ended j ≤ slice_index begun k
  pub none_ended : slice_index ended 0 ≡ 0
  pub few : All (λ n. n < 2 ^ 38) begun

-- The counts are those of the list, all of whose spans end at or before the horizon.
pub record Tabulates (list : List Posting) (horizon : ℕ) (table : Counts) : Type 0 where
  pub boundaries : AreBoundaries list horizon table.boundaries
  pub begun : table.begun ≡ map (λ x. begun x list) table.boundaries
  pub ended : table.ended ≡ map (λ x. ended x list) table.boundaries
  pub early : All (λ p. p.span.to ≤ horizon) list

-- The segment between boundaries j and k is admissible, by the counts of its elementary intervals.
abbrev pub AdmissibleBetween : Counts → Fraction → ℕ → ℕ → Type 0
AdmissibleBetween table factor j k = (i : ℕ) → j ≤ i → i < k → size_between table j k * factor.under ≤ factor.over * alive_in table i
