-- What the counts at boundaries say of a list.
use Rattle.std.proofs.Common.{arith, ap, sym, ◌∙◌, ◌≡◌, ◌⊎◌, ℕ, ◌+◌, ◌-◌, ◌^◌, ◌<◌, ◌≤◌, nat_lt, nat_le, ◌&&◌, cond, List, [], ◌∷◌, ◌++◌, map, length, get_or, slice_index, All, Contains, refl, lt-ltb}
use Rattle.std.specs.List.Sorted.{IsStrictlyIncreasing, IsNonDecreasing}
use Rattle.std.proofs.lemmas.Bool.Decides.{nat_tests}
use Rattle.std.proofs.lemmas.List.{get_or-map, length-map}
use Rattle.std.proofs.lemmas.List.Sums.{count_by-le-length, sum_by-le, sum_by-le-sum_by}
use Rattle.std.proofs.lemmas.List.Elements.{Contains-get_or, Contains-append_left, Contains-append_right, All-cons, All-append, All-map, All-contains}
use Rattle.std.proofs.lemmas.List.Sorted.{IsNonDecreasingBy-from_default}
use Rattle.base_types.specs.declared.posting.Posting.{Posting}
use Rattle.base_types.specs.declared.fraction.Fraction.{Fraction}
use Rattle.lists_postings.specs.Lists.{meets, holds}
use Rattle.lists_postings.specs.Sizes.{size, alive_count, begun, ended}
use Rattle.lists_postings.proofs.Counts.{size_ended}
use Rattle.plans_partitions.specs.Boundaries.{ends, AreBoundaries}
use Rattle.plans_partitions.specs.Counts.{Counts, Tabulates, AreOrdered, size_between, alive_in, AdmissibleBetween}
use Rattle.plans_partitions.specs.Partitions.{IsAdmissible}
use Rattle.plans_partitions.proofs.Sums.{bit, sum_same, count_split}
use Rattle.plans_partitions.proofs.Places.{rises, not_falling, place_below, place_of, contains_map, apart, floor_of}

-- the ends of each posting are boundaries
pub ends_in : (list : List Posting) (horizon : ℕ) (times : List ℕ) → AreBoundaries list horizon times → All (λ p. Contains times p.span.from × Contains times p.span.to) list
ends_in list horizon times b i d l =
    let starts : List ℕ = map (λ (p : Posting). p.span.from) list in
    let stops : List ℕ = map (λ (p : Posting). p.span.to) list in (
      (b.each _).1 (Contains-append_right (horizon ∷ []) (starts ++ stops) _ (Contains-append_left starts stops _ (contains_map (λ (p : Posting). p.span.from) list i d l))),
      (b.each _).1 (Contains-append_right (horizon ∷ []) (starts ++ stops) _ (Contains-append_right starts stops _ (contains_map (λ (p : Posting). p.span.to) list i d l))),
    )

-- there is a boundary
pub some_time : (list : List Posting) (horizon : ℕ) (times : List ℕ) → AreBoundaries list horizon times → 0 < length times
some_time list horizon times b = let (k, l, e) = place_of times horizon ((b.each horizon).1 (0, omega arith, refl)) in omega arith

alive_one : (a b t x y : ℕ) → a ≤ t → t < b → (x ≤ a) ⊎ (b ≤ x) → (y ≤ a) ⊎ (b ≤ y) → bit (nat_lt x b && nat_lt a y) ≡ bit (nat_le x t && nat_lt t y)
alive_one a b t x y le lt p q = grind (arith, nat_tests)

pub count_at : (f : ℕ → ℕ) (xs ys : List ℕ) → ys ≡ map f xs → (k : ℕ) → k < length xs → slice_index ys k ≡ f (slice_index xs k)
count_at f xs ys e k l = ap (λ zs. slice_index zs k) e ∙ get_or-map f xs k 0 0 l

-- a size by two counts
pub size_is : (list : List Posting) (horizon : ℕ) (table : Counts) → Tabulates list horizon table → (j k : ℕ) → j < k → k < length table.boundaries
    → size_between table j k ≡ size (slice_index table.boundaries j) (slice_index table.boundaries k) list
size_is list horizon table t j k lt l =
    omega (
      arith,
      size_ended list (slice_index table.boundaries j) (slice_index table.boundaries k) (rises table.boundaries t.boundaries.ascending j k lt l),
      count_at (λ x. begun x list) table.boundaries table.begun t.begun k l,
      count_at (λ x. ended x list) table.boundaries table.ended t.ended j (omega arith),
    )

-- at each time of an elementary interval as many postings are alive
pub alive_in_is : (list : List Posting) (horizon : ℕ) (table : Counts) → Tabulates list horizon table → (k t : ℕ) → k + 1 < length table.boundaries → slice_index table.boundaries k ≤ t → t < slice_index table.boundaries (k + 1)
    → alive_in table k ≡ alive_count t list
alive_in_is list horizon table t k at l le lt =
    let near : (x : ℕ) → Contains table.boundaries x → (x ≤ slice_index table.boundaries k) ⊎ (slice_index table.boundaries (k + 1) ≤ x) = λ x c. apart table.boundaries t.boundaries.ascending k x l c in
    size_is list horizon table t k (k + 1) (omega arith) l ∙ sum_same (λ (p : Posting). bit (meets (slice_index table.boundaries k) (slice_index table.boundaries (k + 1)) p)) (λ (p : Posting). bit (holds at p)) list
    (λ i d m. alive_one _ _ at _ _ le lt (near _ (ends_in list horizon table.boundaries t.boundaries i d m).0) (near _ (ends_in list horizon table.boundaries t.boundaries i d m).1))

pub begun_le : (list : List Posting) (f g : ℕ) → f ≤ g → begun f list ≤ begun g list
begun_le list f g le = sum_by-le-sum_by (λ (p : Posting). bit (nat_lt p.span.from f)) (λ (p : Posting). bit (nat_lt p.span.from g)) list (λ p. grind (arith, nat_tests))

pub ended_le : (list : List Posting) (f g : ℕ) → f ≤ g → ended f list ≤ ended g list
ended_le list f g le = sum_by-le-sum_by (λ (p : Posting). bit (nat_le p.span.to f)) (λ (p : Posting). bit (nat_le p.span.to g)) list (λ p. grind (arith, nat_tests))

pub ended_begun : (list : List Posting) (f g : ℕ) → f ≤ g → ended f list ≤ begun g list
ended_begun list f g le = sum_by-le-sum_by (λ (p : Posting). bit (nat_le p.span.to f)) (λ (p : Posting). bit (nat_lt p.span.from g)) list (λ p. let o : p.span.from < p.span.to = p.span.ordered in grind (arith, nat_tests))

pub first_le : (times : List ℕ) → IsStrictlyIncreasing times → (x : ℕ) → Contains times x → slice_index times 0 ≤ x
first_le times up x c = let (k, l, e) = place_of times x c in omega (arith, not_falling times up 0 k (omega arith) l)

pub none_ended : (list : List Posting) (horizon : ℕ) (times : List ℕ) → AreBoundaries list horizon times → ended (slice_index times 0) list ≡ 0
none_ended list horizon times b =
    omega (
      arith,
      sum_by-le (λ (p : Posting). cond (nat_le p.span.to (slice_index times 0)) 1 0) 0 list
          (λ i d l. let o : (get_or list i d).span.from < (get_or list i d).span.to = (get_or list i d).span.ordered in grind (arith, nat_tests, first_le times b.ascending _ (ends_in list horizon times b i d l).0)),
    )

pub two_boundaries : (list : List Posting) (horizon : ℕ) (times : List ℕ) → AreBoundaries list horizon times → 0 < length list → 2 ≤ length times
two_boundaries [] horizon times b some = absurd (omega (arith, some))
two_boundaries (p ∷ list) horizon times b some =
    let c = ends_in (p ∷ list) horizon times b 0 p some in
    let (i, l, e) = place_of times p.span.from c.0 in
    let (j, m, f) = place_of times p.span.to c.1 in
    let o : p.span.from < p.span.to = p.span.ordered in
    omega (arith, place_below times b.ascending i j l (omega arith))

pub times_to_horizon : (list : List Posting) (horizon : ℕ) (times : List ℕ) → AreBoundaries list horizon times → All (λ p. p.span.to ≤ horizon) list → All (λ x. x ≤ horizon) times
times_to_horizon list horizon times b early i d l =
    All-contains (λ x. x ≤ horizon) (ends list horizon) _ (All-cons (λ x. x ≤ horizon) horizon _ (omega arith) (All-append (λ x. x ≤ horizon) _ _
    (All-map (λ x. x ≤ horizon) (λ (p : Posting). p.span.from) list (λ j e m. let o : (get_or list j e).span.from < (get_or list j e).span.to = (get_or list j e).span.ordered in omega (arith, early j e m)))
    (All-map (λ x. x ≤ horizon) (λ (p : Posting). p.span.to) list early)))
    ((b.each _).0 (Contains-get_or times i d l))

-- the last boundary is the horizon
pub last_is_horizon : (list : List Posting) (horizon : ℕ) (times : List ℕ) → AreBoundaries list horizon times → All (λ p. p.span.to ≤ horizon) list → slice_index times (length times - 1) ≡ horizon
last_is_horizon list horizon times b early =
    let (k, l, e) = place_of times horizon ((b.each horizon).1 (0, omega arith, refl)) in
    omega (arith, not_falling times b.ascending k (length times - 1) (omega arith) (omega arith), times_to_horizon list horizon times b early (length times - 1) 0 (omega arith))

-- each posting begins before the horizon
pub begun_all : (list : List Posting) (horizon : ℕ) → All (λ p. p.span.to ≤ horizon) list → begun horizon list ≡ length list
begun_all list horizon early =
    sym (count_split (λ (p : Posting). nat_lt p.span.from horizon) list (length list) (omega arith) (λ k d l m. lt-ltb _ _ (let o : (get_or list k d).span.from < (get_or list k d).span.to = (get_or list k d).span.ordered in omega (arith, o, early k d m)), λ k d l m. absurd (omega arith)))

-- so the last count is that of the whole list
pub postings_is : (list : List Posting) (horizon : ℕ) (table : Counts) → Tabulates list horizon table → slice_index table.begun (length table.boundaries - 1) ≡ length list
postings_is list horizon table t =
    count_at (λ x. begun x list) table.boundaries table.begun t.begun (length table.boundaries - 1) (omega (arith, some_time list horizon table.boundaries t.boundaries))
    ∙ (ap (λ x. begun x list) (last_is_horizon list horizon table.boundaries t.boundaries t.early) ∙ begun_all list horizon t.early)

-- what never falls doesn't fall along ascending times
not_falling_map : (f : ℕ → ℕ) → ((x y : ℕ) → x ≤ y → f x ≤ f y) → (times : List ℕ) → IsStrictlyIncreasing times → IsNonDecreasing (map f times)
not_falling_map f on times up = IsNonDecreasingBy-from_default (λ x. x) (map f times) 0 (λ i j le l. let m : j < length times = omega (arith, length-map times f) in
    omega (arith, get_or-map f times i 0 0 (omega arith), get_or-map f times j 0 0 m, on _ _ (not_falling times up i j le m)))

pub counts_ordered : (list : List Posting) (horizon : ℕ) (table : Counts) → Tabulates list horizon table → 0 < length list → length list < 2 ^ 38 → horizon < 2 ^ 40 → AreOrdered table.boundaries table.begun table.ended
counts_ordered list horizon table t some few h =
    let times : List ℕ = table.boundaries in
    let two : 2 ≤ length times = two_boundaries list horizon times t.boundaries some in
    let up : IsStrictlyIncreasing times = t.boundaries.ascending in
    rw (t.begun, t.ended) (record {
      many = two;
      ascending = up;
      in_time = λ i d l. omega (arith, times_to_horizon list horizon times t.boundaries t.early i d l);
      begun_each = length-map times (λ x. begun x list);
      ended_each = length-map times (λ x. ended x list);
      begun_rises = not_falling_map (λ x. begun x list) (begun_le list) times up;
      ended_rises = not_falling_map (λ x. ended x list) (ended_le list) times up;
      paired = λ j k le l. omega (arith, get_or-map (λ x. begun x list) times k 0 0 l, get_or-map (λ x. ended x list) times j 0 0 (omega arith), ended_begun list (slice_index times j) (slice_index times k) (not_falling times up j k le l));
      none_ended = get_or-map (λ x. ended x list) times 0 0 0 (omega arith) ∙ none_ended list horizon times t.boundaries;
      few = All-map (λ n. n < 2 ^ 38) (λ x. begun x list) times (λ i d l. omega (arith, count_by-le-length (λ (p : Posting). nat_lt p.span.from (get_or times i d)) list));
    })

-- admissible by the counts is admissible at each time
pub admissible_from_counts : (list : List Posting) (horizon : ℕ) (table : Counts) (factor : Fraction) → Tabulates list horizon table → (j k : ℕ) → j < k → k < length table.boundaries
    → AdmissibleBetween table factor j k → IsAdmissible list factor (slice_index table.boundaries j) (slice_index table.boundaries k)
admissible_from_counts list horizon table factor t j k lt l adm at le less =
    let up = t.boundaries.ascending in
    let (i, f) = floor_of table.boundaries up at (omega arith) (omega (arith, not_falling table.boundaries up 0 j (omega arith) (omega arith))) in
    let after : j ≤ i = grind (arith, f.above j) in
    let before : i < k = place_below table.boundaries up i k f.inside (omega (arith, f.at)) in
    rw (size_is list horizon table t j k lt l, alive_in_is list horizon table t i at (omega arith) f.at (f.above (i + 1) (omega arith) (omega arith))) at (adm i after before)

-- and back
pub counts_from_admissible : (list : List Posting) (horizon : ℕ) (table : Counts) (factor : Fraction) → Tabulates list horizon table → (j k : ℕ) → j < k → k < length table.boundaries
    → IsAdmissible list factor (slice_index table.boundaries j) (slice_index table.boundaries k) → AdmissibleBetween table factor j k
counts_from_admissible list horizon table factor t j k lt l adm i a b =
    let up = t.boundaries.ascending in
    let c : slice_index table.boundaries i < slice_index table.boundaries (i + 1) = rises table.boundaries up i (i + 1) (omega arith) (omega arith) in
    rw (size_is list horizon table t j k lt l, alive_in_is list horizon table t i (slice_index table.boundaries i) (omega arith) (omega arith) c)
    (adm (slice_index table.boundaries i) (not_falling table.boundaries up j i a (omega arith)) (rises table.boundaries up i k b l))
