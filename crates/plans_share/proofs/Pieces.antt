-- What the one piece costs, and bounds of what is offered.
use Rattle.std.specs.Prelude.{◌≡◌, ℕ, zero, suc, ◌+◌, ◌-◌, ◌*◌, ◌^◌, ◌<◌, ◌≤◌, nat_le, nat_lt, ◌&&◌, List, [], ◌∷◌, map, length, slice_index, All, refl}
use Rattle.std.specs.List.Sorted.{IsStrictlyIncreasing}
use Rattle.std.proofs.Common.{arith, ap, sym, subst, ◌∙◌, add-mul, lt-ltb, le-leb}
use Rattle.std.proofs.Math.Nat.{mul-le-mul, div-mul-le_self, div-le_self, zero-mul}
use Rattle.std.proofs.lemmas.List.{length-map, get_or-map}
use Rattle.std.proofs.lemmas.List.Elements.{Contains-get_or}
use Rattle.std.proofs.lemmas.List.Sums.{count_by-le-length}
use Rattle.base_types.specs.declared.fraction.Fraction.{Fraction}
use Rattle.base_types.specs.declared.posting.Posting.{Posting}
use Rattle.lists_postings.specs.Sizes.{size}
use Rattle.plans_partitions.specs.Counts.{Counts, Tabulates, size_between}
use Rattle.plans_partitions.proofs.Places.{not_falling}
use Rattle.plans_partitions.proofs.Tables.{last_is_horizon, size_is}
use Rattle.plans_space.specs.Caps.{cap, unit, budget}
use Rattle.plans_space.specs.Costs.{size_at, expected_cost}
use Rattle.plans_space.specs.Loads.{weights_by}
use Rattle.plans_space.specs.Plans.{IsFront}
use Rattle.plans_space.specs.declared.point.Point.{Point}
use Rattle.plans_share.specs.Asked.{count_in}
use Rattle.plans_share.specs.Offers.{IsSixteen}
use Rattle.plans_share.proofs.Counts.{count-split}
use Rattle.plans_share.proofs.Small.{costs_small}

-- ---- the one piece

pub counts-join : (times : List ℕ) (a b c : ℕ) → a ≤ b → b ≤ c → count_in a b times + count_in b c times ≡ count_in a c times
counts-join times a b c l m = omega (arith, count-split a b times l, count-split b c times m, count-split a c times (omega (arith, l, m)))

pub none-counted : (times : List ℕ) (a : ℕ) → count_in a a times ≡ 0
none-counted times a = omega (arith, count-split a a times (omega arith))

inside : (list : List Posting) (f h t : ℕ) → f ≤ t → t < h → size_at list f (h ∷ []) t ≡ size f h list
inside list f h t le lt = rw (le-leb f t le, lt-ltb t h lt) refl

-- where the weights of two intervals that meet are together that of both, the piece costs its size times the weight of all
pub piece-cost : (weight : ℕ → ℕ → ℕ) → ((a b c : ℕ) → a ≤ b → b ≤ c → weight a b + weight b c ≡ weight a c) → ((a : ℕ) → weight a a ≡ 0) → (list : List Posting) (f h t : ℕ) (times : List ℕ)
    → IsStrictlyIncreasing (t ∷ times) → f ≤ t → slice_index (t ∷ times) (length times) ≡ h → expected_cost list f (h ∷ []) (t ∷ times) (weights_by weight (t ∷ times)) ≡ weight t h * size f h list
piece-cost weight joins none list f h t [] up le last =
    let e : weight t h ≡ 0 = ap (λ x. weight t x) (sym last) ∙ none t in sym (ap (λ n. n * size f h list) e ∙ zero-mul (size f h list))
piece-cost weight joins none list f h t (u ∷ times) up le last =
    let lt : t < u = up 0 (omega arith) in
    let further : IsStrictlyIncreasing (u ∷ times) = λ k m. (
    let e : suc k + 1 ≡ suc (k + 1) = omega arith in
    subst (λ i. slice_index (t ∷ u ∷ times) (suc k) < slice_index (t ∷ u ∷ times) i) e (up (suc k) (omega (arith, m)))) in
    let end : u ≤ h = omega (arith, not_falling (u ∷ times) further 0 (length times) (omega arith) (omega arith), last) in
    let rest = piece-cost weight joins none list f h u times further (omega (arith, le, lt)) last in
    let both : weight t u + weight u h ≡ weight t h = joins t u h (omega (arith, lt)) end in
    let first : weight t u * size_at list f (h ∷ []) t ≡ weight t u * size f h list = ap (λ n. weight t u * n) (inside list f h t le (omega (arith, lt, end))) in
    omega (arith, first, rest, add-mul (weight t u) (weight u h) (size f h list), ap (λ n. n * size f h list) both)

-- so it costs of a list that was counted
pub whole-costs : (weight : ℕ → ℕ → ℕ) → ((a b c : ℕ) → a ≤ b → b ≤ c → weight a b + weight b c ≡ weight a c) → ((a : ℕ) → weight a a ≡ 0) → (list : List Posting) (horizon : ℕ) (table : Counts) → Tabulates list horizon table
    → 2 ≤ length table.boundaries → size_between table 0 (length table.boundaries - 1) ≡ length list
    → expected_cost list (slice_index table.boundaries 0) (horizon ∷ []) table.boundaries (weights_by weight table.boundaries)
    ≡ weight (slice_index table.boundaries 0) (slice_index table.boundaries (length table.boundaries - 1)) * length list
whole-costs weight joins none list horizon table t many counted =
    let times = table.boundaries in
    let last : slice_index times (length times - 1) ≡ horizon = last_is_horizon list horizon times t.boundaries t.early in
    let sized : size (slice_index times 0) horizon list ≡ length list =
    ap (λ h. size (slice_index times 0) h list) (sym last) ∙ sym (size_is list horizon table t 0 (length times - 1) (omega (arith, many)) (omega (arith, many))) ∙ counted in
    whole times many t.boundaries.ascending last ∙ ap (λ h. weight (slice_index times 0) h * size (slice_index times 0) horizon list) (sym last)
    ∙ ap (λ n. weight (slice_index times 0) (slice_index times (length times - 1)) * n) sized
  where
    whole : (times : List ℕ) → 2 ≤ length times → IsStrictlyIncreasing times → slice_index times (length times - 1) ≡ horizon
        → expected_cost list (slice_index times 0) (horizon ∷ []) times (weights_by weight times) ≡ weight (slice_index times 0) horizon * size (slice_index times 0) horizon list
    whole [] many up last = absurd (omega (arith, many))
    whole (u ∷ times) many up last =
        let e : length (u ∷ times) - 1 ≡ length times = omega arith in
        piece-cost weight joins none list u horizon u times up (omega arith) (subst (λ i. slice_index (u ∷ times) i ≡ horizon) e last)

-- ---- bounds

rising : (xs : List ℕ) → IsStrictlyIncreasing xs → (k : ℕ) → k < length xs → k ≤ slice_index xs k
rising xs up zero l = omega arith
rising xs up (suc k) l =
    let e : k + 1 ≡ suc k = omega arith in
    omega (arith, rising xs up k (omega (arith, l)), up k (omega (arith, l)), ap (λ i. slice_index xs i) e)

-- numbers that ascend up to another are no more than one more than that
pub few-rising : (xs : List ℕ) (n : ℕ) → IsStrictlyIncreasing xs → ((k : ℕ) → k < length xs → slice_index xs k ≤ n) → length xs ≤ n + 1
few-rising [] n up low = omega arith
few-rising (x ∷ xs) n up low = omega (arith, rising (x ∷ xs) up (length xs) (omega arith), low (length xs) (omega arith))

-- what is said of the points of a front by the definition
pub points-within : (list : List Posting) (times weights : List ℕ) (factor : Fraction) (f horizon : ℕ) (points : List Point) → IsFront list times weights factor f horizon points
    → All (λ p. p.charge ≤ budget (cap factor (length list))) points
points-within list times weights factor f horizon points front = λ i d l. ((front.each _).0 (Contains-get_or points i d l)).0

pub few-points : (list : List Posting) (times weights : List ℕ) (factor : Fraction) (f horizon : ℕ) (points : List Point) → IsFront list times weights factor f horizon points
    → budget (cap factor (length list)) ≤ 4096 → length points ≤ 4097
few-points list times weights factor f horizon points front small =
    let long = length-map points (λ (p : Point). p.charge) in
    let low : (k : ℕ) → k < length (map (λ (p : Point). p.charge) points) → slice_index (map (λ (p : Point). p.charge) points) k ≤ 4096 = λ k l.
    let m : k < length points = omega (arith, l, long) in
    omega (arith, points-within list times weights factor f horizon points front k (record { charge = 0; cost = 0 }) m, get_or-map (λ (p : Point). p.charge) points k (record { charge = 0; cost = 0 }) 0 m, small) in
    omega (arith, few-rising (map (λ (p : Point). p.charge) points) 4096 front.ascending low, long)

pub points-cheap : (list : List Posting) (times weights : List ℕ) (factor : Fraction) (f horizon : ℕ) (points : List Point) → IsFront list times weights factor f horizon points
    → length list ≤ 2 ^ 38 → length weights ≤ 2 ^ 40 → All (λ w. w ≤ 2 ^ 20) weights → All (λ p. p.cost < 2 ^ 100) points
points-cheap list times weights factor f horizon points front few long small = λ i d l.
    let fall = ((front.each _).0 (Contains-get_or points i d l)).1 in omega (arith, fall.takes, costs_small list f fall.cuts times weights few long small)

-- what a point of the front up to 16 times is charged, in postings
pub charges-within : (factor : Fraction) (postings charged own : ℕ) → IsSixteen factor → postings < 2 ^ 38 → own ≡ unit (cap factor postings) → charged ≤ budget (cap factor postings) → charged * own < 2 ^ 43
charges-within factor postings charged own six few is le =
    let a : charged * own ≤ budget (cap factor postings) * own = mul-le-mul le (omega arith) in
    let b : budget (cap factor postings) * own ≤ cap factor postings = rw is (div-mul-le_self (cap factor postings) (unit (cap factor postings))) in
    let d : cap factor postings ≤ factor.over * postings = div-le_self (factor.over * postings) factor.under in
    omega (arith, a, b, d, ap (λ x. x * postings) six.0, few)

-- the weights by counts
pub weights-few : (weight : ℕ → ℕ → ℕ) (n : ℕ) → ((a b : ℕ) → weight a b ≤ n) → (times : List ℕ) → All (λ w. w ≤ n) (weights_by weight times)
weights-few weight n few [] i d l = absurd (omega (arith, l))
weights-few weight n few (t ∷ []) i d l = absurd (omega (arith, l))
weights-few weight n few (t ∷ u ∷ times) zero d l = few t u
weights-few weight n few (t ∷ u ∷ times) (suc i) d l = weights-few weight n few (u ∷ times) i d (omega (arith, l))

pub weights-long : (weight : ℕ → ℕ → ℕ) (times : List ℕ) → length (weights_by weight times) ≤ length times
weights-long weight [] = omega arith
weights-long weight (t ∷ []) = omega arith
weights-long weight (t ∷ u ∷ times) = omega (arith, weights-long weight (u ∷ times))

pub counts-few : (times : List ℕ) → length times ≤ 1048576 → (a b : ℕ) → count_in a b times ≤ 2 ^ 20
counts-few times few a b = omega (arith, count_by-le-length (λ s. nat_le a s && nat_lt s b) times, few)

-- as many times as are below 2^40
pub times-few : (times : List ℕ) → IsStrictlyIncreasing times → All (λ x. x < 2 ^ 40) times → length times ≤ 2 ^ 40
times-few times up low = omega (arith, few-rising times (2 ^ 40 - 1) up (λ k l. omega (arith, low k 0 l)))
