-- There is an offer for each list, and a best choice among any offers.
use Rattle.std.specs.Prelude.{◌≡◌, ℕ, ◌+◌, ◌-◌, ◌<◌, Option, Some, None, List, [], ◌∷◌, length, map, slice_index, replicate, sum_by, All, refl}
use Rattle.std.proofs.Common.{arith, sym, inl, inr, lit≤, lit<}
use Rattle.std.proofs.lemmas.Bool.{cases_lt}
use Rattle.std.proofs.lemmas.List.Elements.{All-replicate}
use Rattle.base_types.specs.declared.fraction.Fraction.{Fraction}
use Rattle.plans_partitions.proofs.Ordering.{each_has_boundaries}
use Rattle.plans_space.specs.Caps.{cap, unit, charge}
use Rattle.plans_space.specs.Costs.{expected_cost}
use Rattle.plans_space.specs.Loads.{weights_by}
use Rattle.plans_space.specs.Steps.{IsLeast, lesser, plus}
use Rattle.plans_space.proofs.LeastLemmas.{least_either, Begins, least_behind, BeginsBelow, least_of_all, least_way}
use Rattle.plans_space.proofs.ThereIsABest.{each_has_a_front}
use Rattle.plans_share.specs.Choices.{Offered, picked, ArePicks, IsEligible, IsBestChoice}
use Rattle.plans_share.specs.Laws.{EachListHasAnOffer, EachHaveABestChoice}
use Rattle.plans_share.specs.Offers.{in_units}
use Rattle.plans_share.specs.Steps.{IsWithin}
use Rattle.plans_share.proofs.Cells.{cost_of}
use Rattle.plans_share.proofs.Wholes.{are-wholes, cost-of-wholes}

-- ---- an offer

abbrev sixteen : Fraction
sixteen = record { over = 16; under = 1; proper = lit≤ tt; at_least_one = lit≤ tt; in_range = lit< tt }

pub each_has_an_offer : EachListHasAnOffer
each_has_an_offer weight list horizon shared =
    let (times, are) = each_has_boundaries list horizon in
    let weights = weights_by weight times in
    let f = slice_index times 0 in
    let (points, front) = each_has_a_front list times weights sixteen f horizon in (
      record {
        whole = record { charge = charge shared (length list); cost = expected_cost list f (horizon ∷ []) times weights };
        front = map (in_units shared (unit (cap sixteen (length list)))) points;
      },
      record {
        times = times;
        times_are = are;
        whole_charge = refl;
        whole_cost = refl;
        factor = sixteen;
        sixteen = (refl, refl);
        points = points;
        points_are = front;
        charged = refl;
      },
    )

-- ---- a best choice

-- the least cost by one pick of the first offer, by the least costs of the offers behind
by_pick : (offer : Offered) (offers : List Offered) (c : ℕ) → ((left : ℕ) → (o : Option ℕ) × IsLeast (IsWithin offers left) (cost_of offers) o)
    → (k : ℕ) → (o : Option ℕ) × IsLeast (Begins (λ x. IsWithin (offer ∷ offers) c (k ∷ x)) k) (cost_of (offer ∷ offers)) o
by_pick offer offers c behind k = elim (cases_lt (length offer.front) k) [
  | inl past ↦ none (λ x w. omega (arith, w.0.0, past))
  | inr there ↦ elim (cases_lt c (picked offer k).charge) [
    | inl more ↦ none (λ x w. omega (arith, w.1, more))
    | inr fits ↦ let (o, least) = behind (c - (picked offer k).charge) in (
      plus (picked offer k).cost o,
      least_behind (IsWithin offers (c - (picked offer k).charge)) (λ x. IsWithin (offer ∷ offers) c (k ∷ x)) (cost_of offers) (cost_of (offer ∷ offers)) k (picked offer k).cost o (λ x. refl)
          (λ x w. ((there, w.0), omega (arith, w.1, fits))) (λ x w. (w.0.1, omega (arith, w.1, fits))) least,
    )
  ]
]
  where
    none : ((x : List ℕ) → ¬ (IsWithin (offer ∷ offers) c (k ∷ x))) → (o : Option ℕ) × IsLeast (Begins (λ x. IsWithin (offer ∷ offers) c (k ∷ x)) k) (cost_of (offer ∷ offers)) o
    none never = (
      None,
      least_behind (λ x. IsWithin (offer ∷ offers) c (k ∷ x)) (λ x. IsWithin (offer ∷ offers) c (k ∷ x)) (cost_of offers) (cost_of (offer ∷ offers)) k (picked offer k).cost None (λ x. refl) (λ x w. w) (λ x w. w) never,
    )

least_within : (offers : List Offered) (c : ℕ) → (o : Option ℕ) × IsLeast (IsWithin offers c) (cost_of offers) o
least_within [] c = (Some 0, record { list = []; is = (tt, omega arith); takes = refl; least = λ x w. omega arith })
least_within (offer ∷ offers) c =
    let way = by_pick offer offers c (least_within offers) in
    let n = length offer.front + 1 in
    let (o, least) = least_way (λ k. (way k).0) n in
    (o, least_of_all (IsWithin (offer ∷ offers) c) (cost_of (offer ∷ offers)) (λ k. (way k).0) n (first n (omega arith)) (λ k l. (way k).1) o least)
  where
    first : (n : ℕ) → length offer.front < n → (x : List ℕ) → IsWithin (offer ∷ offers) c x → BeginsBelow n x
    first n l [] w = absurd w.0
    first n l (k ∷ x) w = omega (arith, w.0.0, l)

pub each_have_a_best : EachHaveABestChoice
each_have_a_best offers budget = go (least_within offers budget)
  where
    AreWholes : List ℕ → Type 0
    AreWholes picks = ArePicks offers picks × All (λ k. k ≡ 0) picks

    whole : ℕ
    whole = sum_by (λ (o : Offered). o.whole.cost) offers

    noughts : (n : ℕ) → All (λ (k : ℕ). k ≡ 0) (replicate n 0)
    noughts n = All-replicate (λ (k : ℕ). k ≡ 0) n 0 refl

    best : (o : Option ℕ) → IsLeast (IsEligible offers budget) (cost_of offers) (lesser (Some whole) o) → (picks : List ℕ) × IsBestChoice offers budget picks
    best None h = (h.list, record { eligible = h.is; best = λ other e. omega (arith, h.takes, h.least other e) })
    best (Some v) h = (h.list, record { eligible = h.is; best = λ other e. omega (arith, h.takes, h.least other e) })

    go : (o : Option ℕ) × IsLeast (IsWithin offers budget) (cost_of offers) o → (picks : List ℕ) × IsBestChoice offers budget picks
    go (o, h) = best o (least_either AreWholes (IsWithin offers budget) (IsEligible offers budget) (cost_of offers) (Some whole) o
        (λ x e. elim e [ inl w ↦ (w.0, inl w.1) | inr w ↦ (w.0, inr w.1) ]) (λ x e. elim e.1 [ inl z ↦ inl (e.0, z) | inr l ↦ inr (e.0, l) ])
        (record {
          list = replicate (length offers) 0;
          is = (are-wholes offers, noughts (length offers));
          takes = sym (cost-of-wholes offers (replicate (length offers) 0) (are-wholes offers) (noughts (length offers)));
          least = λ x e. omega (arith, cost-of-wholes offers x e.0 e.1);
        }) h)
