-- What is offered for a word that shares a budget with others.
use Rattle.std.specs.Prelude.{◌≡◌, ℕ, ◌*◌, List, [], ◌∷◌, length, map, slice_index, sum_by}
use Rattle.std.specs.Int.{div_ceil}
use Rattle.base_types.specs.declared.fraction.Fraction.{Fraction}
use Rattle.base_types.specs.declared.posting.Posting.{Posting}
use Rattle.plans_partitions.specs.Boundaries.{AreBoundaries}
use Rattle.plans_space.specs.Caps.{cap, unit, charge}
use Rattle.plans_space.specs.Costs.{expected_cost}
use Rattle.plans_space.specs.Loads.{weights_by}
use Rattle.plans_space.specs.Plans.{IsFront}
use Rattle.plans_space.specs.declared.point.Point.{Point}
use Rattle.plans_share.specs.Asked.{asked_in}
use Rattle.plans_share.specs.Choices.{Offered}
use Rattle.plans_share.specs.declared.asked.Asking.{Asking}

-- a word that shares, with its list
pub record Sharer : Type 0 where
  pub word : List ℕ
  pub list : List Posting

-- the most postings that the factor allows the lists together
abbrev pub shared_cap : Fraction → List Sharer → ℕ
shared_cap factor words = cap factor (sum_by (λ s. length s.list) words)

-- the factor 16, up to which a word's own front goes
abbrev pub IsSixteen : Fraction → Type 0
IsSixteen factor = (factor.over ≡ 16) × (factor.under ≡ 1)

-- a point that is charged in units of `own` postings, charged in units of `shared` postings, rounded up
abbrev pub in_units : ℕ → ℕ → Point → Point
in_units shared own p = record { charge = div_ceil (p.charge * own) shared; cost = p.cost }

-- What is offered for a list, charged in units of so many postings: the list in one piece, and the points of its front up to 16 times its size.
-- Costs are those that are expected where each elementary interval weighs what the function says of its two ends.
pub record IsOffer (weight : ℕ → ℕ → ℕ) (list : List Posting) (horizon shared : ℕ) (offer : Offered) : Type 0 where
  pub times : List ℕ
  pub times_are : AreBoundaries list horizon times
  pub whole_charge : offer.whole.charge ≡ charge shared (length list)
  pub whole_cost : offer.whole.cost ≡ expected_cost list (slice_index times 0) (horizon ∷ []) times (weights_by weight times)
  pub factor : Fraction
  pub sixteen : IsSixteen factor
  pub points : List Point
  pub points_are : IsFront list times (weights_by weight times) factor (slice_index times 0) horizon points
  pub charged : offer.front ≡ map (in_units shared (unit (cap factor (length list)))) points

-- One offer for each word; an elementary interval weighs as much as there are pairs of the word with a time in it.
abbrev pub AreOffers : List Asking → ℕ → ℕ → List Sharer → List Offered → Type 0
AreOffers asked horizon shared [] [] = Unit {0}
AreOffers asked horizon shared (s ∷ words) (offer ∷ offers) = IsOffer (asked_in asked s.word) s.list horizon shared offer
    × AreOffers asked horizon shared words offers
AreOffers asked horizon shared [] (offer ∷ offers) = ⊥
AreOffers asked horizon shared (s ∷ words) [] = ⊥
