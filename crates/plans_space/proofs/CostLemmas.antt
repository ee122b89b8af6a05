-- The expected cost, segment by segment, and the weights of a segment as a difference of sums.
use Rattle.std.specs.Prelude.{◌≡◌, ◌⊎◌, ℕ, zero, suc, ◌+◌, ◌-◌, ◌*◌, ◌<◌, ◌≤◌, nat_le, nat_lt, Bool, true, false, ◌&&◌, if◌then◌else◌, List, [], ◌∷◌, length, slice_index, refl}
use Rattle.std.specs.List.Sorted.{IsStrictlyIncreasing}
use Rattle.std.proofs.Common.{arith, ap, sym, ◌∙◌, inl, inr, add-mul, mul-zero}
use Rattle.std.proofs.lemmas.Bool.{cases_lt}
use Rattle.std.proofs.lemmas.Bool.Decides.{nat_tests}
use Rattle.base_types.specs.declared.posting.Posting.{Posting}
use Rattle.lists_postings.specs.Sizes.{size}
use Rattle.plans_partitions.proofs.Places.{rises}
use Rattle.plans_space.specs.Costs.{Ascends, along, size_at, expected_cost}
use Rattle.plans_space.specs.Steps.{AreSums}

-- the weights of the elementary intervals that begin in [a, b), and of those that begin before b
abbrev pub weighed : List ℕ → List ℕ → ℕ → ℕ → ℕ
weighed [] weights a b = 0
weighed (t ∷ times) [] a b = 0
weighed (t ∷ times) (w ∷ weights) a b = (if nat_le a t && nat_lt t b then w else 0) + weighed times weights a b

abbrev pub weighed_below : List ℕ → List ℕ → ℕ → ℕ
weighed_below [] weights b = 0
weighed_below (t ∷ times) [] b = 0
weighed_below (t ∷ times) (w ∷ weights) b = (if nat_lt t b then w else 0) + weighed_below times weights b

one_weight : (w t a b : ℕ) → a ≤ b → (if nat_le a t && nat_lt t b then w else 0) + (if nat_lt t a then w else 0) ≡ (if nat_lt t b then w else 0)
one_weight w t a b l = grind (arith, nat_tests)

weighed_between : (times weights : List ℕ) (a b : ℕ) → a ≤ b → weighed times weights a b + weighed_below times weights a ≡ weighed_below times weights b
weighed_between [] weights a b l = refl
weighed_between (t ∷ times) [] a b l = refl
weighed_between (t ∷ times) (w ∷ weights) a b l = omega (arith, one_weight w t a b l, weighed_between times weights a b l)

not_below : (w t b : ℕ) → b ≤ t → (if nat_lt t b then w else 0) ≡ 0
not_below w t b l = grind (arith, nat_tests)

is_below : (w t b : ℕ) → t < b → (if nat_lt t b then w else 0) ≡ w
is_below w t b l = grind (arith, nat_tests)

none_below : (times weights : List ℕ) (b : ℕ) → ((k : ℕ) → k < length times → b ≤ slice_index times k) → weighed_below times weights b ≡ 0
none_below [] weights b h = refl
none_below (t ∷ times) [] b h = refl
none_below (t ∷ times) (w ∷ weights) b h = omega (arith, not_below w t b (h 0 (omega arith)), none_below times weights b (λ k l. h (suc k) (omega arith)))

none_first : (times weights : List ℕ) → ((j k : ℕ) → j < k → k < length times → slice_index times j < slice_index times k) → weighed_below times weights (slice_index times 0) ≡ 0
none_first times weights up = none_below times weights (slice_index times 0) (λ k d. first k d (cases_lt 0 k))
  where
    first : (k : ℕ) → k < length times → ((0 < k) ⊎ (k ≤ 0)) → slice_index times 0 ≤ slice_index times k
    first k d (inl h) = omega (arith, up 0 k h d)
    first k d (inr h) = let e : 0 ≡ k = omega arith in omega (arith, ap (λ i. slice_index times i) e)

below_next : (times weights : List ℕ) → ((j k : ℕ) → j < k → k < length times → slice_index times j < slice_index times k) → (q : ℕ) → suc q < length times → q < length weights
    → weighed_below times weights (slice_index times (suc q)) ≡ weighed_below times weights (slice_index times q) + slice_index weights q
below_next [] weights up q l m = absurd (omega (arith, l))
below_next (t ∷ times) [] up q l m = absurd (omega (arith, m))
below_next (t ∷ times) (w ∷ weights) up zero l m =
    omega (
      arith,
      is_below w t (slice_index times 0) (up 0 1 (omega arith) (omega arith)),
      none_first times weights (λ j k d f. up (suc j) (suc k) (omega arith) (omega arith)),
      none_first (t ∷ times) (w ∷ weights) up,
    )
below_next (t ∷ times) (w ∷ weights) up (suc q) l m =
    omega (
      arith,
      below_next times weights (λ j k d f. up (suc j) (suc k) (omega arith) (omega arith)) q (omega (arith, l)) (omega (arith, m)),
      is_below w t (slice_index times (suc q)) (up 0 (suc (suc q)) (omega arith) l),
      is_below w t (slice_index times q) (up 0 (suc q) (omega arith) (omega (arith, l))),
    )

pub below_is : (times weights sums : List ℕ) → IsStrictlyIncreasing times → length weights + 1 ≡ length times → AreSums weights sums → (q : ℕ) → q < length times → weighed_below times weights (slice_index times q) ≡ slice_index sums q
below_is times weights sums up long s zero l = none_first times weights (rises times up) ∙ sym s.none
below_is times weights sums up long s (suc q) l =
    let e : q + 1 ≡ suc q = omega arith in
    omega (arith, below_next times weights (rises times up) q l (omega (arith, long)), below_is times weights sums up long s q (omega arith), s.next q (omega (arith, long)), ap (λ i. slice_index sums i) e)

-- the weights between boundaries
pub weighed_is : (times weights sums : List ℕ) → IsStrictlyIncreasing times → length weights + 1 ≡ length times → AreSums weights sums → (p q : ℕ) → p < q → q < length times
    → weighed times weights (slice_index times p) (slice_index times q) ≡ slice_index sums q - slice_index sums p
weighed_is times weights sums up long s p q lt l =
    omega (arith, weighed_between times weights (slice_index times p) (slice_index times q) (omega (arith, rises times up p q lt l)), below_is times weights sums up long s p (omega arith), below_is times weights sums up long s q l)

-- no segment holds a time before the first cut
size_before : (list : List Posting) (f : ℕ) (cuts : List ℕ) (end t : ℕ) → Ascends f cuts end → t < f → size_at list f cuts t ≡ 0
size_before list f [] end t a l = refl
size_before list f (g ∷ cuts) end t (lt, a) l = skip (size f g list) (size_at list g cuts t) f g t l ∙ size_before list g cuts end t a (omega arith)
  where
    skip : (x y f g t : ℕ) → t < f → (if nat_le f t && nat_lt t g then x else y) ≡ y
    skip x y f g t l = grind (arith, nat_tests)

one_time : (w x y f g t wsum rest sum : ℕ) → (t < g → y ≡ 0) → rest ≡ wsum * x + sum
    → w * (if nat_le f t && nat_lt t g then x else y) + rest ≡ ((if nat_le f t && nat_lt t g then w else 0) + wsum) * x + (w * y + sum)
one_time w x y f g t wsum rest sum none e = go (nat_le f t && nat_lt t g) (λ h. none (before h))
  where
    before : (nat_le f t && nat_lt t g) ≡ true → t < g
    before h = grind (arith, nat_tests)

    go : (b : Bool) → (b ≡ true → y ≡ 0) → w * (if b then x else y) + rest ≡ ((if b then w else 0) + wsum) * x + (w * y + sum)
    go true zero_if = rw (zero_if refl) (omega (arith, e, add-mul w wsum x, mul-zero w))
    go false zero_if = omega (arith, e)

no_cost : (list : List Posting) (f : ℕ) (times weights : List ℕ) → expected_cost list f [] times weights ≡ 0
no_cost list f [] weights = refl
no_cost list f (t ∷ times) [] = refl
no_cost list f (t ∷ times) (w ∷ weights) = omega (arith, mul-zero w, no_cost list f times weights)

first_segment : (list : List Posting) (f g : ℕ) (cuts : List ℕ) (end : ℕ) → Ascends g cuts end → (times weights : List ℕ)
    → expected_cost list f (g ∷ cuts) times weights ≡ weighed times weights f g * size f g list + expected_cost list g cuts times weights
first_segment list f g cuts end a [] weights = omega arith
first_segment list f g cuts end a (t ∷ times) [] = omega arith
first_segment list f g cuts end a (t ∷ times) (w ∷ weights) =
    one_time w (size f g list) (size_at list g cuts t) f g t (weighed times weights f g) (expected_cost list f (g ∷ cuts) times weights) (expected_cost list g cuts times weights)
    (λ l. size_before list g cuts end t a l) (first_segment list f g cuts end a times weights)

-- the cost of a partition is the weight of each segment times its size, added up
pub cost_by_segments : (list : List Posting) (times weights : List ℕ) (f : ℕ) (cuts : List ℕ) (end : ℕ) → Ascends f cuts end
    → expected_cost list f cuts times weights ≡ along (λ a b. weighed times weights a b * size a b list) f cuts
cost_by_segments list times weights f [] end a = no_cost list f times weights
cost_by_segments list times weights f (g ∷ cuts) end (lt, a) = omega (arith, first_segment list f g cuts end a times weights, cost_by_segments list times weights g cuts end a)
