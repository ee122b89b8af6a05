-- What follows from the definitions of boundaries and partitions: what a plan looks for is there.
use Rattle.std.specs.Prelude.{◌≡◌, ℕ, ◌<◌, ◌≤◌, List, [], ◌∷◌, ◌++◌, map, length, All}
use Rattle.std.specs.List.Sorted.{IsStrictlyIncreasing}
use Rattle.base_types.specs.declared.time.Time.{Time}
use Rattle.base_types.specs.declared.posting.Posting.{Posting}
use Rattle.base_types.specs.declared.fraction.Fraction.{Fraction}
use Rattle.plans_partitions.specs.Boundaries.{IsBoundary, AreBoundaries}
use Rattle.plans_partitions.specs.Partitions.{Covers, IsLeast, AreBest}

-- Each list has boundaries, at each horizon.
abbrev pub EachListHasBoundaries : Type 0
EachListHasBoundaries = (list : List Posting) (horizon : ℕ) → (times : List ℕ) × AreBoundaries list horizon times

-- They are one list.
abbrev pub OneListOfBoundaries : Type 0
OneListOfBoundaries = (list : List Posting) (horizon : ℕ) (a b : List ℕ) → AreBoundaries list horizon a → AreBoundaries list horizon b
    → a ≡ b

-- A list whose spans end at or before the horizon has a least space up to each boundary, for each factor.
abbrev pub EachListHasBest : Type 0
EachListHasBest =
    (list : List Posting) (factor : Fraction) (horizon : ℕ) (times : List ℕ) → All (λ p. p.span.to ≤ horizon) list
    → AreBoundaries list horizon times
    → (numbers : List ℕ) × AreBest list factor horizon times numbers

-- These spaces are one list of numbers.
abbrev pub OneListOfBest : Type 0
OneListOfBest = (list : List Posting) (factor : Fraction) (horizon : ℕ) (times a b : List ℕ) → AreBest list factor horizon times a
    → AreBest list factor horizon times b → a ≡ b

-- Such a list has a least partition, for each factor.
abbrev pub EachListHasALeast : Type 0
EachListHasALeast =
    (list : List Posting) (factor : Fraction) (horizon : ℕ) → All (λ p. p.span.to ≤ horizon) list
    → (first : ℕ) × ((cuts : List ℕ) × IsLeast list factor first cuts horizon)

-- If the list isn't empty, the cuts of a least partition are times, and behind them stands the horizon.
abbrev pub EachListHasALeastPlan : Type 0
EachListHasALeastPlan =
    (list : List Posting) (factor : Fraction) (horizon : Time) → 0 < length list → All (λ p. p.span.to ≤ horizon.seconds) list
    → (first : Time) × ((cuts : List Time)
    × IsLeast list factor first.seconds (map (λ (t : Time). t.seconds) cuts ++ horizon.seconds ∷ []) horizon.seconds)

-- A partition at boundaries has ascending cuts, and no more of them than there are boundaries.
abbrev pub PartitionsAreNarrow : Type 0
PartitionsAreNarrow =
    (list : List Posting) (factor : Fraction) (horizon : ℕ) (times : List ℕ) (first : ℕ) (cuts : List ℕ) (end : ℕ)
    → AreBoundaries list horizon times
    → IsBoundary list horizon first → All (IsBoundary list horizon) cuts → Covers list factor first cuts end
    → IsStrictlyIncreasing (first ∷ cuts) × (length (first ∷ cuts) ≤ length times)
