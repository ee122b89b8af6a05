-- Numbers put in order, each once.
use Rattle.std.specs.Prelude.{◌≡◌, ◌↔◌, ℕ, zero, suc, ◌+◌, ◌<◌, ◌≤◌, Bool, true, not, nat_eq, List, [], ◌∷◌, length, slice_index, sum_by, Contains, ⊤, refl}
use Rattle.std.specs.List.{filter, list_any, range_with_len}
use Rattle.std.specs.List.Sorted.{IsStrictlyIncreasing}
use Rattle.std.proofs.Common.{arith, sym, subst, inl, inr, Decides, nat_cmp}
use Rattle.std.specs.BTreeSet.{BTreeSet, contains}
use Rattle.std.proofs.lemmas.Cmp.{nat_cmp_total, nat_eq_equiv}
use Rattle.std.proofs.lemmas.Bool.{both_ways, not-true}
use Rattle.std.proofs.lemmas.Bool.Decides.{same_from_decides}
use Rattle.std.proofs.lemmas.List.Elements.{All-contains, Contains-append_cases, filter_passes}
use Rattle.std.proofs.lemmas.List.FromFn.{length-range_with_len, get_or-range_with_len}
use Rattle.std.proofs.lemmas.List.Kept.{IsStrictlyIncreasing-filter}
use Rattle.std.proofs.lemmas.List.Sorted.{Contains-permutation, IsPermutation-filter_both}
use Rattle.std.proofs.lemmas.List.Sums.{get_or-le-sum_by}
use Rattle.std.proofs.lemmas.Map.Keys.{sorted_from_strictly_increasing}
use Rattle.std.proofs.lemmas.Map.Lookups.{btree_set_from_contains, exact_unsigned}
use Rattle.std.proofs.lemmas.Map.Views.{exact_unsigned_eq, Contains-from_any, list_any-from_Contains, btree_set_contains_iff}
use Rattle.base_types.specs.declared.posting.Posting.{Posting}
use Rattle.plans_partitions.specs.Boundaries.{ends, IsBoundary, AreBoundaries}
use Rattle.plans_partitions.specs.Laws.{EachListHasBoundaries, OneListOfBoundaries}

-- each number is at least the one given, and above the one before it
abbrev pub Rise : ℕ → List ℕ → Type 0
Rise low [] = ⊤
Rise low (x ∷ xs) = (low ≤ x) × Rise (suc x) xs

pub increasing : (low : ℕ) (xs : List ℕ) → Rise low xs → IsStrictlyIncreasing xs
increasing low [] r k l = absurd (omega (arith, l))
increasing low (x ∷ []) r k l = absurd (omega (arith, l))
increasing low (x ∷ y ∷ xs) r zero l = r.1.0
increasing low (x ∷ y ∷ xs) r (suc k) l =
    let e : suc (k + 1) ≡ suc k + 1 = omega arith in
    subst (λ i. slice_index (x ∷ y ∷ xs) (suc k) < slice_index (x ∷ y ∷ xs) i) e (increasing (suc x) (y ∷ xs) r.1 k (omega (arith, l)))

pub rising : (low : ℕ) (xs : List ℕ) → low ≤ slice_index xs 0 → IsStrictlyIncreasing xs → Rise low xs
rising low [] l up = tt
rising low (x ∷ []) l up = (l, tt)
rising low (x ∷ y ∷ xs) l up = (l, rising (suc x) (y ∷ xs) (up 0 (omega arith)) (λ k m. let e : suc (k + 1) ≡ suc k + 1 = omega arith in subst (λ i. slice_index (x ∷ y ∷ xs) (suc k) < slice_index (x ∷ y ∷ xs) i) (sym e) (up (suc k) (omega (arith, m)))))

-- what passes a test is kept by it
kept : (p : ℕ → Bool) (xs : List ℕ) (t : ℕ) → p t ≡ true → Contains xs t → Contains (filter p xs) t
kept p xs t passes c = elim (Contains-append_cases (filter p xs) (filter (λ y. not (p y)) xs) t (Contains-permutation xs _ t (IsPermutation-filter_both p (λ y. not (p y)) (λ y. refl) xs) c)) [
  | inl d ↦ d
  | inr d ↦ absurd (both_ways (p t) (not-true (p t) (All-contains (λ y. not (p y) ≡ true) _ t (filter_passes (λ y. not (p y)) xs) d)) passes)
]

-- all of them, as those of the numbers up to their sum that are among them
pub in_order : (xs : List ℕ) → (ys : List ℕ) × (Rise 0 ys × ((t : ℕ) → Contains ys t ↔ Contains xs t))
in_order xs =
    let bound : ℕ = sum_by (λ x. x) xs + 1 in
    let among = λ (t : ℕ). list_any (nat_eq t) xs in
    let all : List ℕ = range_with_len 0 bound in
    let long : length all ≡ bound = length-range_with_len 0 bound in
    let at = λ (k : ℕ) (l : k < bound). get_or-range_with_len 0 bound k 0 l in
    let up : IsStrictlyIncreasing all = λ k l. omega (arith, at k (omega arith), at (k + 1) (omega arith)) in
    let from : (t : ℕ) → Contains (filter among all) t → Contains xs t = λ t c. Contains-from_any exact_unsigned_eq t xs (All-contains (λ y. among y ≡ true) (filter among all) t (filter_passes among all) c) in
    let to : (t : ℕ) → Contains xs t → Contains (filter among all) t = λ t c. kept among all t (list_any-from_Contains nat_eq_equiv t xs c)
    (let below : t < bound = omega (arith, get_or-le-sum_by (λ x. x) xs c.0 t c.1, c.2) in (t, omega arith, omega (arith, get_or-range_with_len 0 bound t t below))) in
    (filter among all, (rising 0 (filter among all) (omega arith) (IsStrictlyIncreasing-filter among all up), λ t. (from t, to t)))

pub each_has_boundaries : EachListHasBoundaries
each_has_boundaries list horizon =
    let (times, (rises, same)) = in_order (ends list horizon) in
    (times, record { ascending = increasing 0 times rises; each = same })

-- numbers as a set
abbrev set_of : List ℕ → BTreeSet ℕ
set_of xs = record { keys = xs }

-- as a set, boundaries have what is one
has : (list : List Posting) (horizon : ℕ) (times : List ℕ) → AreBoundaries list horizon times → (t : ℕ) → Decides (contains nat_cmp (set_of times) t) (IsBoundary list horizon t)
has list horizon times b t =
    let it = btree_set_contains_iff nat_cmp_total exact_unsigned (set_of times) t in
    (λ c. (b.each t).0 (it.0 c), λ c. it.1 ((b.each t).1 c))

-- sets with the same elements are one list
pub one_list_of_boundaries : OneListOfBoundaries
one_list_of_boundaries list horizon a b x y =
    btree_set_from_contains nat_cmp_total (set_of a) (set_of b) (sorted_from_strictly_increasing a x.ascending) (sorted_from_strictly_increasing b y.ascending)
    (λ t. same_from_decides _ _ (has list horizon a x t) (has list horizon b y t)) exact_unsigned
