-- What follows from the definitions of plans under a space bound.
use Rattle.std.specs.Prelude.{◌≡◌, ℕ, ◌<◌, ◌≤◌, List, length, slice_index}
use Rattle.std.specs.List.Sorted.{IsStrictlyIncreasing}
use Rattle.base_types.specs.declared.posting.Posting.{Posting}
use Rattle.base_types.specs.declared.fraction.Fraction.{Fraction}
use Rattle.base_types.specs.declared.time.Span.{Span}
use Rattle.plans_partitions.specs.Partitions.{space}
use Rattle.plans_space.specs.Caps.{cap}
use Rattle.plans_space.specs.Loads.{AreWeights, weights_by}
use Rattle.plans_space.specs.Plans.{IsEligible, IsBestUnder, IsFront}
use Rattle.plans_space.specs.declared.point.Point.{Point}

-- A partition that may be chosen takes at most the cap.
abbrev pub EligibleIsCapped : Type 0
EligibleIsCapped =
    (list : List Posting) (times : List ℕ) (factor : Fraction) (f horizon : ℕ) (cuts : List ℕ) → IsEligible list times factor f horizon cuts
    → space list f cuts ≤ cap factor (length list)

-- There is a best partition from each time to each later one, for any weights.
abbrev pub EachListHasABest : Type 0
EachListHasABest =
    (list : List Posting) (times weights : List ℕ) (factor : Fraction) (f horizon : ℕ) → f < horizon
    → (cuts : List ℕ) × IsBestUnder list times weights factor f horizon cuts

-- There is a front between any two times, for any weights.
abbrev pub EachListHasAFront : Type 0
EachListHasAFront =
    (list : List Posting) (times weights : List ℕ) (factor : Fraction) (f horizon : ℕ)
    → (points : List Point) × IsFront list times weights factor f horizon points

-- A partition of boundaries' times that may be chosen has at most 127 segments.
abbrev pub EligibleIsShort : Type 0
EligibleIsShort =
    (list : List Posting) (times : List ℕ) (factor : Fraction) (f horizon : ℕ) (cuts : List ℕ) → IsStrictlyIncreasing times
    → slice_index times 0 ≡ f
    → IsEligible list times factor f horizon cuts → length cuts ≤ 127

-- Where a load answers by a function of a span's two ends, the weights are that function's.
abbrev pub WeightsOfAFunction : (Span → ℕ → Type 0) → Type 0
WeightsOfAFunction Answers =
    (weight : ℕ → ℕ → ℕ) (times weights : List ℕ) → ((span : Span) (n : ℕ) → Answers span n → n ≡ weight span.from span.to)
    → AreWeights Answers times weights → weights ≡ weights_by weight times
