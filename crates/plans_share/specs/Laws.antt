-- What follows from the definitions of expected costs, offers and choices.
use Rattle.std.specs.Prelude.{ℕ, ◌^◌, ◌<◌, ◌≤◌, List, length, All}
use Rattle.base_types.specs.declared.posting.Posting.{Posting}
use Rattle.plans_space.specs.Costs.{expected_cost}
use Rattle.plans_share.specs.Choices.{Offered, IsBestChoice}
use Rattle.plans_share.specs.Offers.{IsOffer}

-- Where each elementary interval weighs at most 2^20, as by counts of at most so many pairs, a cost is below 2^100.
abbrev pub CountedCostsAreSmall : Type 0
CountedCostsAreSmall =
    (list : List Posting) (f : ℕ) (cuts times weights : List ℕ) → length list ≤ 2 ^ 38 → length weights ≤ 2 ^ 40
    → All (λ w. w ≤ 2 ^ 20) weights
    → expected_cost list f cuts times weights < 2 ^ 100

-- There is an offer for each list, whatever its intervals weigh and whatever it is charged in.
abbrev pub EachListHasAnOffer : Type 0
EachListHasAnOffer =
    (weight : ℕ → ℕ → ℕ) (list : List Posting) (horizon shared : ℕ) → (offer : Offered) × IsOffer weight list horizon shared offer

-- There is a best choice among any offers, within any budget.
abbrev pub EachHaveABestChoice : Type 0
EachHaveABestChoice = (offers : List Offered) (budget : ℕ) → (picks : List ℕ) × IsBestChoice offers budget picks
