-- Plans as they are stored: the left ends of the segments as times, of which the last segment ends at the horizon; and what is asked of them by
-- their kind. One that keeps to a guarantee has to be a least one. One under a space bound has to be a best one for the load of its kind.
use Rattle.std.specs.Prelude.{◌≡◌, ℕ, ◌-◌, ◌≤◌, max, List, [], ◌∷◌, ◌++◌, map, length, All, Option, Some, None}
use Rattle.base_types.specs.declared.time.Time.{Time}
use Rattle.base_types.specs.declared.posting.Posting.{Posting}
use Rattle.base_types.specs.declared.fraction.Fraction.{Fraction}
use Rattle.base_commands.specs.declared.command.Kind.{Kind}
use Rattle.base_commands.specs.declared.command.Kind.TheVariants.{Guarantee, Uniform, Since}
use Rattle.plans_partitions.specs.Boundaries.{IsBoundary, IsFirst, AreBoundaries}
use Rattle.plans_partitions.specs.Partitions.{space, widest, Covers, IsLeast}
use Rattle.plans_space.specs.Caps.{cap}
use Rattle.plans_space.specs.Costs.{Ascends, expected_cost}
use Rattle.plans_space.specs.Loads.{weights_by}
use Rattle.plans_space.specs.Plans.{IsBestUnder}

-- What is asked of a list's partition into segments, by the plan's kind: of the factor, the left cuts, and the horizon.
abbrev pub Asks : Type 1
Asks = Kind → List Posting → Fraction → List Time → ℕ → Type 0

-- The cuts behind the first, and then the horizon, in seconds.
abbrev pub later : List Time → ℕ → List ℕ
later cuts h = map (λ (t : Time). t.seconds) cuts ++ h ∷ []

-- The space of a plan: the sizes of its segments, added up.
abbrev pub plan_space : List Posting → List Time → ℕ → ℕ
plan_space list [] h = 0
plan_space list (f ∷ cuts) h = space list f.seconds (later cuts h)

-- ---- plans that keep to a guarantee

-- The list has no more boundaries than such a plan may have.
abbrev pub IsNarrow : List Posting → ℕ → Type 0
IsNarrow list h = (times : List ℕ) × AreBoundaries list h times × (length times ≤ widest)

-- The cuts make a least partition with the horizon.
abbrev pub IsLeastPlan : List Posting → Fraction → List Time → ℕ → Type 0
IsLeastPlan list factor [] h = ⊥
IsLeastPlan list factor (f ∷ cuts) h = IsLeast list factor f.seconds (later cuts h) h

-- A partition that is admissible and has its cuts at boundaries, from the first one on; that it is least isn't asked.
pub record IsFit (list : List Posting) (factor : Fraction) (f : ℕ) (cuts : List ℕ) (h : ℕ) : Type 0 where
  pub first : IsFirst list h f
  pub at_boundaries : All (IsBoundary list h) cuts
  pub covers : Covers list factor f cuts h

-- The cuts make such a partition with the horizon.
abbrev pub IsFitPlan : List Posting → Fraction → List Time → ℕ → Type 0
IsFitPlan list factor [] h = ⊥
IsFitPlan list factor (f ∷ cuts) h = IsFit list factor f.seconds (later cuts h) h

-- ---- plans under a space bound

-- How often the times of [f, g) are asked for: each second once,
abbrev pub each_second : ℕ → ℕ → ℕ
each_second f g = g - f

-- or each second from a time on.
abbrev pub each_second_since : ℕ → ℕ → ℕ → ℕ
each_second_since t f g = g - max f t

-- A partition from the first boundary to the horizon, of those that may be chosen under the bound one whose reads are expected to cost least
-- under this load.
pub record IsBest (load : ℕ → ℕ → ℕ) (list : List Posting) (factor : Fraction) (f : ℕ) (cuts : List ℕ) (h : ℕ) : Type 0 where
  pub first : IsFirst list h f
  pub times : List ℕ
  pub times_are : AreBoundaries list h times
  pub best : IsBestUnder list times (weights_by load times) factor f h cuts

-- The cuts make such a partition with the horizon.
abbrev pub IsBestPlan : (ℕ → ℕ → ℕ) → List Posting → Fraction → List Time → ℕ → Type 0
IsBestPlan load list factor [] h = ⊥
IsBestPlan load list factor (f ∷ cuts) h = IsBest load list factor f.seconds (later cuts h) h

-- A partition from the first boundary to the horizon that keeps the bound on space; where it is cut, and that it is best, isn't asked.
pub record IsCapped (list : List Posting) (factor : Fraction) (f : ℕ) (cuts : List ℕ) (h : ℕ) : Type 0 where
  pub first : IsFirst list h f
  pub ascends : Ascends f cuts h
  pub capped : space list f cuts ≤ cap factor (length list)

-- The cuts make such a partition with the horizon.
abbrev pub IsCappedPlan : List Posting → Fraction → List Time → ℕ → Type 0
IsCappedPlan list factor [] h = ⊥
IsCappedPlan list factor (f ∷ cuts) h = IsCapped list factor f.seconds (later cuts h) h

-- What the reads by the cuts are expected to cost under a load.
abbrev pub IsPlanCost : (ℕ → ℕ → ℕ) → List Posting → List Time → ℕ → ℕ → Type 0
IsPlanCost load list [] h cost = ⊥
IsPlanCost load list (f ∷ cuts) h cost = (times : List ℕ) × AreBoundaries list h times
    × (cost ≡ expected_cost list f.seconds (later cuts h) times (weights_by load times))

-- ---- by the kind

-- The plan is what its kind promises.
abbrev pub IsGoodPlan : Asks
IsGoodPlan Guarantee list factor cuts h = IsNarrow list h × IsLeastPlan list factor cuts h
IsGoodPlan Uniform list factor cuts h = IsBestPlan each_second list factor cuts h
IsGoodPlan (Since at) list factor cuts h = IsBestPlan (each_second_since at.seconds) list factor cuts h

-- The plan may be loaded, which `is_fit` tests.
abbrev pub IsFitFor : Asks
IsFitFor Guarantee list factor cuts h = IsNarrow list h × IsFitPlan list factor cuts h
IsFitFor Uniform list factor cuts h = IsCappedPlan list factor cuts h
IsFitFor (Since at) list factor cuts h = IsCappedPlan list factor cuts h

-- What is told of a plan's expected cost: of one under a space bound what its reads are expected to cost under its load, of another one nothing.
abbrev pub IsCostOf : Kind → List Posting → List Time → ℕ → Option ℕ → Type 0
IsCostOf Guarantee list cuts h cost = cost ≡ None
IsCostOf Uniform list cuts h cost = (n : ℕ) × IsPlanCost each_second list cuts h n × (cost ≡ Some n)
IsCostOf (Since at) list cuts h cost = (n : ℕ) × IsPlanCost (each_second_since at.seconds) list cuts h n × (cost ≡ Some n)
