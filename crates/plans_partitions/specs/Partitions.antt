-- Partitions of a list's time line, and which of them are admissible and least. A partition is given by its first
-- cut and the list of its later cuts, of which the last is its end.
use Rattle.std.specs.Prelude.{◌≡◌, ℕ, ◌+◌, ◌*◌, ◌-◌, ◌<◌, ◌≤◌, List, [], ◌∷◌, length, slice_index, All, Contains}
use Rattle.std.specs.List.Sorted.{IsStrictlyIncreasing}
use Rattle.base_types.specs.declared.posting.Posting.{Posting}
use Rattle.base_types.specs.declared.fraction.Fraction.{Fraction}
use Rattle.lists_postings.specs.Sizes.{size, alive_count}
use Rattle.plans_partitions.specs.Boundaries.{IsBoundary, IsFirst, AreBoundaries}

-- The most boundaries that a plan may have.
abbrev pub widest : ℕ
widest = 1048576

-- [f, g) may be a segment: at each time in it, the size of its sublist is at most the factor times what is alive.
abbrev pub IsAdmissible : List Posting → Fraction → ℕ → ℕ → Type 0
IsAdmissible list factor f g = (t : ℕ) → f ≤ t → t < g → size f g list * factor.under ≤ factor.over * alive_count t list

-- The cuts lead from f to the end in ascending admissible segments.
abbrev pub Covers : List Posting → Fraction → ℕ → List ℕ → ℕ → Type 0
Covers list factor f [] end = f ≡ end
Covers list factor f (g ∷ cuts) end = (f < g) × IsAdmissible list factor f g × Covers list factor g cuts end

-- The space of a partition: the sizes of its segments, added up.
abbrev pub space : List Posting → ℕ → List ℕ → ℕ
space list f [] = 0
space list f (g ∷ cuts) = size f g list + space list g cuts

-- The sizes of the segments of a partition, in order.
abbrev pub sizes : List Posting → ℕ → List ℕ → List ℕ
sizes list f [] = []
sizes list f (g ∷ cuts) = size f g list ∷ sizes list g cuts

-- A least partition: its cuts are boundaries, it is admissible, and no admissible partition from the first
-- boundary to the horizon, whatever its cut times, takes less space.
pub record IsLeast (list : List Posting) (factor : Fraction) (f : ℕ) (cuts : List ℕ) (horizon : ℕ) : Type 0 where
  pub first : IsFirst list horizon f
  pub at_boundaries : All (IsBoundary list horizon) cuts
  pub covers : Covers list factor f cuts horizon
  pub least : (other : List ℕ) → Covers list factor f other horizon → space list f cuts ≤ space list f other

-- The least space of an admissible partition from f to t: one with cuts at boundaries takes it, and none with
-- whatever cut times takes less.
pub record IsBest (list : List Posting) (factor : Fraction) (horizon f t best : ℕ) : Type 0 where
  pub cuts : List ℕ
  pub covers : Covers list factor f cuts t
  pub at_boundaries : All (IsBoundary list horizon) cuts
  pub takes : space list f cuts ≡ best
  pub least : (other : List ℕ) → Covers list factor f other t → best ≤ space list f other

-- The numbers are the least spaces from the first boundary to each boundary.
pub record AreBest (list : List Posting) (factor : Fraction) (horizon : ℕ) (times numbers : List ℕ) : Type 0 where
  pub times_are : AreBoundaries list horizon times
  pub long : length numbers ≡ length times
  pub each : (k : ℕ) → k < length times → IsBest list factor horizon (slice_index times 0) (slice_index times k) (slice_index numbers k)

-- All cuts of a partition in one list: at least a first and a last, ascending.
pub record IsPartition (cuts : List ℕ) : Type 0 where
  pub many : 2 ≤ length cuts
  pub ascending : IsStrictlyIncreasing cuts

-- The cuts are among the times, from their first to their last.
pub record IsFitting (times cuts : List ℕ) : Type 0 where
  pub first : slice_index cuts 0 ≡ slice_index times 0
  pub last : slice_index cuts (length cuts - 1) ≡ slice_index times (length times - 1)
  pub inside : All (Contains times) cuts
