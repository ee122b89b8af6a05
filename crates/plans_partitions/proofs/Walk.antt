-- What bounds the space of every admissible partition, whatever its cut times.
use Rattle.std.proofs.Common.{arith, ap, inl, inr, ◌≡◌, ◌⊎◌, ℕ, ◌+◌, ◌*◌, ◌<◌, ◌≤◌, List, [], ◌∷◌, length, slice_index, Contains, mul-le-mul_left, mul-le-mul_right}
use Rattle.std.specs.List.Sorted.{IsStrictlyIncreasing}
use Rattle.std.proofs.lemmas.Bool.{cases_lt}
use Rattle.std.proofs.lemmas.Bool.Decides.{nat_tests}
use Rattle.base_types.specs.declared.posting.Posting.{Posting}
use Rattle.base_types.specs.declared.fraction.Fraction.{Fraction}
use Rattle.lists_postings.specs.Lists.{meets, holds}
use Rattle.lists_postings.specs.Sizes.{size, alive_count}
use Rattle.plans_partitions.specs.Boundaries.{AreBoundaries}
use Rattle.plans_partitions.specs.Partitions.{IsAdmissible, Covers, space}
use Rattle.plans_partitions.proofs.Sums.{bit, sum_le}
use Rattle.plans_partitions.proofs.Places.{IsFloor, floor_of, place_of, place_to, not_falling, rises}
use Rattle.plans_partitions.proofs.Tables.{ends_in}

-- the numbers are no more than the space of one more admissible segment between boundaries
pub record AreBounds (list : List Posting) (factor : Fraction) (horizon : ℕ) (times pi : List ℕ) : Type 0 where
  pub times_are : AreBoundaries list horizon times
  pub edges : (j k : ℕ) → j < k → k < length times → IsAdmissible list factor (slice_index times j) (slice_index times k)
      → slice_index pi k ≤ slice_index pi j + size (slice_index times j) (slice_index times k) list

-- a boundary after a floor is after the time, and one that is not after the time is not after its floor
above_floor : (xs : List ℕ) (t j x : ℕ) → IsStrictlyIncreasing xs → IsFloor xs t j → Contains xs x → (x ≤ slice_index xs j) ⊎ (t < x)
above_floor xs t j x up f c = let (i, l, e) = place_of xs x c in elim (cases_lt j i) [
  | inl lt ↦ inr (omega (arith, f.above i lt l))
  | inr ge ↦ inl (omega (arith, not_falling xs up i j ge f.inside))
]

-- with both ends moved down to their floors a segment is no larger
size_lowered : (list : List Posting) (horizon : ℕ) (times : List ℕ) → AreBoundaries list horizon times → (f g j k : ℕ) → IsFloor times f j → IsFloor times g k
    → size (slice_index times j) (slice_index times k) list ≤ size f g list
size_lowered list horizon times b f g j k p q =
    sum_le (λ (r : Posting). bit (meets (slice_index times j) (slice_index times k) r)) (λ (r : Posting). bit (meets f g r)) list
    (λ i d l. let past = above_floor times f j _ b.ascending p (ends_in list horizon times b i d l).1 in grind (arith, nat_tests, past, q.at, p.at))

alive_lowered : (list : List Posting) (horizon : ℕ) (times : List ℕ) → AreBoundaries list horizon times → (f t j : ℕ) → IsFloor times f j → slice_index times j ≤ t → t ≤ f → alive_count f list ≤ alive_count t list
alive_lowered list horizon times b f t j p l m =
    sum_le (λ (r : Posting). bit (holds f r)) (λ (r : Posting). bit (holds t r)) list
    (λ i d h. let past = above_floor times f j _ b.ascending p (ends_in list horizon times b i d h).0 in grind (arith, nat_tests, past))

bound_lowered : (s r a b u o : ℕ) → r ≤ s → a ≤ b → s * u ≤ o * a → r * u ≤ o * b
bound_lowered s r a b u o e f h = omega (arith, mul-le-mul_right u e, mul-le-mul_left o f)

-- and it stays admissible
admissible_lowered : (list : List Posting) (factor : Fraction) (horizon : ℕ) (times : List ℕ) → AreBoundaries list horizon times → (f g j k : ℕ) → f < g → IsFloor times f j → IsFloor times g k
    → IsAdmissible list factor f g → IsAdmissible list factor (slice_index times j) (slice_index times k)
admissible_lowered list factor horizon times b f g j k lt p q adm t le less =
    let small : size (slice_index times j) (slice_index times k) list ≤ size f g list = size_lowered list horizon times b f g j k p q in elim (cases_lt t f) [
      | inl h ↦ bound_lowered (size f g list) _ (alive_count f list) _ factor.under factor.over small (alive_lowered list horizon times b f t j p le (omega arith)) (adm f (omega arith) lt)
      | inr h ↦ bound_lowered (size f g list) _ (alive_count t list) _ factor.under factor.over small (omega arith) (adm t h (omega (arith, q.at)))
    ]

-- one segment of any path
step_costs : (list : List Posting) (factor : Fraction) (horizon : ℕ) (times pi : List ℕ) → AreBounds list factor horizon times pi → (f g j k : ℕ) → f < g → IsFloor times f j → IsFloor times g k
    → IsAdmissible list factor f g → slice_index pi k ≤ slice_index pi j + size f g list
step_costs list factor horizon times pi b f g j k lt p q adm = elim (cases_lt j k) [
  | inl h ↦ omega (arith, b.edges j k h q.inside (admissible_lowered list factor horizon times b.times_are f g j k lt p q adm), size_lowered list horizon times b.times_are f g j k p q)
  | inr h ↦ let back : k < j → ⊥ = λ s. omega (arith, q.above j s p.inside, p.at) in let e : j ≡ k = omega arith in omega (arith, ap (λ n. slice_index pi n) e)
]

-- the number at a path's end is at most that at the floor of its start and the path's space
pub path_costs : (list : List Posting) (factor : Fraction) (horizon : ℕ) (times pi : List ℕ) → AreBounds list factor horizon times pi → (cuts : List ℕ) (f j e : ℕ) → slice_index times 0 ≤ f → IsFloor times f j → e < length times
    → Covers list factor f cuts (slice_index times e) → slice_index pi e ≤ slice_index pi j + space list f cuts
path_costs list factor horizon times pi b [] f j e from p l c =
    let to : j ≤ e = place_to times b.times_are.ascending j e p.inside (omega (arith, p.at)) in
    let back : j < e → ⊥ = λ lt. omega (arith, p.above e lt l) in
    let same : j ≡ e = omega arith in
    omega (arith, ap (λ n. slice_index pi n) same)
path_costs list factor horizon times pi b (g ∷ cuts) f j e from p l c =
    let (k, q) = floor_of times b.times_are.ascending g (omega arith) (omega (arith, c.0)) in
    omega (arith, path_costs list factor horizon times pi b cuts g k e (omega (arith, c.0)) q l c.2, step_costs list factor horizon times pi b f g j k c.0 p q c.1)

-- from the first boundary
pub paths_cost : (list : List Posting) (factor : Fraction) (horizon : ℕ) (times pi : List ℕ) → AreBounds list factor horizon times pi → slice_index pi 0 ≡ 0 → (cuts : List ℕ) (e : ℕ) → e < length times
    → Covers list factor (slice_index times 0) cuts (slice_index times e) → slice_index pi e ≤ space list (slice_index times 0) cuts
paths_cost list factor horizon times pi b z cuts e l c =
    let start : IsFloor times (slice_index times 0) 0 = record { inside = omega arith; at = omega arith; above = λ k a m. rises times b.times_are.ascending 0 k a m } in
    omega (arith, path_costs list factor horizon times pi b cuts (slice_index times 0) 0 e (omega arith) start l c)
