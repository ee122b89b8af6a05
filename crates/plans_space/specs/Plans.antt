-- The best partitions under a space bound, and how their cost falls as more is allowed.
use Rattle.std.specs.Prelude.{◌≡◌, ◌⊎◌, ◌↔◌, ℕ, ◌<◌, ◌≤◌, List, [], ◌∷◌, map, length, All, Contains}
use Rattle.std.specs.List.Sorted.{IsStrictlyIncreasing}
use Rattle.base_types.specs.declared.posting.Posting.{Posting}
use Rattle.base_types.specs.declared.fraction.Fraction.{Fraction}
use Rattle.plans_space.specs.Caps.{cap, unit, budget, IsCandidate}
use Rattle.plans_space.specs.Costs.{Ascends, charges, expected_cost}
use Rattle.plans_space.specs.declared.point.Point.{Point}

-- A partition that cuts at candidates alone and is charged at most so much.
pub record IsWithin (list : List Posting) (times : List ℕ) (unit most f horizon : ℕ) (cuts : List ℕ) : Type 0 where
  pub ascends : Ascends f cuts horizon
  pub candidates : All (IsCandidate times) cuts
  pub charged : charges list unit f cuts ≤ most

-- A partition may be chosen: it is the one piece, or cuts at candidates and keeps the budget.
abbrev pub IsEligible : List Posting → List ℕ → Fraction → ℕ → ℕ → List ℕ → Type 0
IsEligible list times factor f horizon cuts =
    ((f < horizon) × (cuts ≡ horizon ∷ []))
    ⊎ IsWithin list times (unit (cap factor (length list))) (budget (cap factor (length list))) f horizon cuts

-- A best partition: it may be chosen, and none that may be chosen is expected to cost less.
pub record IsBestUnder (list : List Posting) (times weights : List ℕ) (factor : Fraction) (f horizon : ℕ) (cuts : List ℕ) : Type 0 where
  pub eligible : IsEligible list times factor f horizon cuts
  pub best : (other : List ℕ) → IsEligible list times factor f horizon other
      → expected_cost list f cuts times weights ≤ expected_cost list f other times weights

-- At the charge c the least cost falls to v: some partition that is charged at most c costs v and none costs less,
-- and each that is charged less than c costs more.
pub record IsFall (list : List Posting) (times weights : List ℕ) (unit f horizon c v : ℕ) : Type 0 where
  pub cuts : List ℕ
  pub within : IsWithin list times unit c f horizon cuts
  pub takes : expected_cost list f cuts times weights ≡ v
  pub least : (other : List ℕ) → IsWithin list times unit c f horizon other → v ≤ expected_cost list f other times weights
  pub falls : (other : List ℕ) (most : ℕ) → most < c → IsWithin list times unit most f horizon other
      → v < expected_cost list f other times weights

-- The points are the falls up to the budget, in order.
pub record IsFront (list : List Posting) (times weights : List ℕ) (factor : Fraction) (f horizon : ℕ) (points : List Point) : Type 0 where
  pub ascending : IsStrictlyIncreasing (map (λ p. p.charge) points)
  pub each : (p : Point) → Contains points p ↔ ((p.charge ≤ budget (cap factor (length list)))
      × IsFall list times weights (unit (cap factor (length list))) f horizon p.charge p.cost)
