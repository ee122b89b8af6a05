-- The steps of a certificate's numbers, by the counts of a table.
use Rattle.std.specs.Prelude.{ℕ, ◌+◌, ◌<◌, ◌≤◌, List, slice_index}
use Rattle.base_types.specs.declared.fraction.Fraction.{Fraction}
use Rattle.plans_partitions.specs.Counts.{Counts, AdmissibleBetween, size_between}

-- From boundary j to k the number grows by no more than the segment's size, where that is admissible.
abbrev pub IsEdge : Counts → Fraction → List ℕ → ℕ → ℕ → Type 0
IsEdge table factor pi j k = AdmissibleBetween table factor j k → slice_index pi k ≤ slice_index pi j + size_between table j k

-- The same from each boundary before k, and to each boundary before n.
abbrev pub EdgesTo : Counts → Fraction → List ℕ → ℕ → Type 0
EdgesTo table factor pi k = (j : ℕ) → j < k → IsEdge table factor pi j k

abbrev pub EdgesBelow : Counts → Fraction → List ℕ → ℕ → Type 0
EdgesBelow table factor pi n = (k : ℕ) → k < n → EdgesTo table factor pi k
