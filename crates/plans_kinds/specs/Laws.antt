-- What holds of stored plans by their definitions.
use Rattle.std.specs.Prelude.{◌≡◌, ℕ, ◌<◌, ◌≤◌, List, [], ◌∷◌, ◌++◌, map, length, All, Option}
use Rattle.std.specs.List.Sorted.{IsStrictlyIncreasing}
use Rattle.base_types.specs.declared.time.Time.{Time}
use Rattle.base_types.specs.declared.posting.Posting.{Posting}
use Rattle.base_types.specs.declared.fraction.Fraction.{Fraction}
use Rattle.base_commands.specs.declared.command.Kind.{Kind}
use Rattle.base_commands.specs.declared.command.Kind.TheVariants.{Guarantee}
use Rattle.plans_partitions.specs.Boundaries.{IsFirst}
use Rattle.plans_kinds.specs.Plans.{IsNarrow, IsGoodPlan, IsFitFor, IsCostOf}

-- A plan that is what its kind promises may be loaded.
abbrev pub GoodPlansAreFit : Type 0
GoodPlansAreFit = (kind : Kind) (list : List Posting) (factor : Fraction) (cuts : List Time) (horizon : Time)
    → IsGoodPlan kind list factor cuts horizon.seconds → IsFitFor kind list factor cuts horizon.seconds

-- A list that isn't empty, and whose spans end at or before the horizon, has a plan that is what its kind promises, for each factor. (For a guarantee
-- it has to have few enough boundaries.)
abbrev pub EachListHasAGoodPlan : Type 0
EachListHasAGoodPlan =
    (kind : Kind) (list : List Posting) (factor : Fraction) (horizon : Time) → 0 < length list → All (λ p. p.span.to ≤ horizon.seconds) list
    → (kind ≡ Guarantee → IsNarrow list horizon.seconds) → (cuts : List Time) × IsGoodPlan kind list factor cuts horizon.seconds

-- A plan that is what its kind promises has an expected cost, where its kind has one.
abbrev pub EachGoodPlanHasACost : Type 0
EachGoodPlanHasACost =
    (kind : Kind) (list : List Posting) (factor : Fraction) (cuts : List Time) (horizon : Time)
    → IsGoodPlan kind list factor cuts horizon.seconds
    → (cost : Option ℕ) × IsCostOf kind list cuts horizon.seconds cost

-- Two plans of a list that are both what their kind promises have the same expected cost, where their kind has one.
abbrev pub GoodPlansCostTheSame : Type 0
GoodPlansCostTheSame =
    (kind : Kind) (list : List Posting) (factor : Fraction) (one other : List Time) (horizon : Time) (cost price : Option ℕ)
    → IsGoodPlan kind list factor one horizon.seconds → IsGoodPlan kind list factor other horizon.seconds
    → IsCostOf kind list one horizon.seconds cost → IsCostOf kind list other horizon.seconds price → cost ≡ price

-- A plan that is what its kind promises has at most 1,048,575 cuts.
abbrev pub GoodPlansAreShort : Type 0
GoodPlansAreShort =
    (kind : Kind) (list : List Posting) (factor : Fraction) (cuts : List Time) (horizon : Time)
    → IsGoodPlan kind list factor cuts horizon.seconds → length cuts ≤ 1048575

-- The first cut is the first boundary of the list.
abbrev pub BeginsFirst : List Posting → List Time → ℕ → Type 0
BeginsFirst list [] h = ⊥
BeginsFirst list (f ∷ cuts) h = IsFirst list h f.seconds

-- A plan that may be loaded has a first cut, at the first boundary; the cuts ascend, up to the horizon.
abbrev pub FitPlansAreWellCut : Type 0
FitPlansAreWellCut =
    (kind : Kind) (list : List Posting) (factor : Fraction) (cuts : List Time) (horizon : Time)
    → IsFitFor kind list factor cuts horizon.seconds
    → (1 ≤ length cuts) × BeginsFirst list cuts horizon.seconds
    × IsStrictlyIncreasing (map (λ (t : Time). t.seconds) (cuts ++ horizon ∷ []))
