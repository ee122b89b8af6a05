-- Ascending times by their places.
use Rattle.std.proofs.Common.{arith, sym, ◌∙◌, subst, inl, inr, ◌≡◌, ◌⊎◌, ℕ, ◌+◌, ◌-◌, ◌<◌, ◌≤◌, nat_le, List, map, length, get_or, slice_index, Contains}
use Rattle.std.specs.List.{prefix_len}
use Rattle.std.specs.List.Sorted.{IsStrictlyIncreasing, IsNonDecreasing}
use Rattle.std.proofs.lemmas.Bool.{cases_lt, leb-true, leb-false}
use Rattle.std.proofs.lemmas.Grind.{get_or_default_zero}
use Rattle.std.proofs.lemmas.List.{get_or-map, length-map}
use Rattle.std.proofs.lemmas.List.Elements.{Contains-get_or}
use Rattle.std.proofs.lemmas.List.Kept.{AllPairs-from_increasing}
use Rattle.std.proofs.lemmas.List.Sums.{prefix_len-le-length, prefix_len_passes, prefix_len_stops}
use Rattle.std.proofs.lemmas.Map.Keys.{sorted_from_strictly_increasing, non_decreasing_from_sorted}

pub rises : (xs : List ℕ) → IsStrictlyIncreasing xs → (j k : ℕ) → j < k → k < length xs → slice_index xs j < slice_index xs k
rises xs up j k lt l = AllPairs-from_increasing xs up j k 0 lt l

pub not_falling_by : (xs : List ℕ) → IsStrictlyIncreasing xs → IsNonDecreasing xs
not_falling_by xs up = non_decreasing_from_sorted xs (sorted_from_strictly_increasing xs up)

pub not_falling : (xs : List ℕ) → IsStrictlyIncreasing xs → (j k : ℕ) → j ≤ k → k < length xs → slice_index xs j ≤ slice_index xs k
not_falling xs up j k le l = not_falling_by xs up j k 0 le l

-- a lower time stands at a lower place
pub place_below : (xs : List ℕ) → IsStrictlyIncreasing xs → (j k : ℕ) → j < length xs → slice_index xs j < slice_index xs k → j < k
place_below xs up j k l lt = grind (arith, not_falling xs up k j)

pub place_to : (xs : List ℕ) → IsStrictlyIncreasing xs → (j k : ℕ) → j < length xs → slice_index xs j ≤ slice_index xs k → j ≤ k
place_to xs up j k l le = grind (arith, rises xs up k j)

pub place_of : (xs : List ℕ) (x : ℕ) → Contains xs x → (k : ℕ) × (k < length xs) × (slice_index xs k ≡ x)
place_of xs x (k, l, e) = (k, l, sym (get_or_default_zero xs k x l) ∙ e)

pub contains_at : (xs : List ℕ) (k x : ℕ) → k < length xs → slice_index xs k ≡ x → Contains xs x
contains_at xs k x l e = subst (λ y. Contains xs y) e (Contains-get_or xs k 0 l)

pub contains_map : {X Y : Type 0} (f : X → Y) (xs : List X) (k : ℕ) (d : X) → k < length xs → Contains (map f xs) (f (get_or xs k d))
contains_map f xs k d l =
    let m : k < length (map f xs) = omega (arith, length-map xs f) in
    subst (λ y. Contains (map f xs) y) (get_or-map f xs k d (f d) l) (Contains-get_or (map f xs) k (f d) m)

-- no time of the list lies between neighbours
pub apart : (xs : List ℕ) → IsStrictlyIncreasing xs → (k x : ℕ) → k + 1 < length xs → Contains xs x → (x ≤ slice_index xs k) ⊎ (slice_index xs (k + 1) ≤ x)
apart xs up k x l c = let (i, m, e) = place_of xs x c in elim (cases_lt k i) [
  | inl lt ↦ inr (omega (arith, not_falling xs up (k + 1) i (omega arith) m))
  | inr ge ↦ inl (omega (arith, not_falling xs up i k ge (omega arith)))
]

-- j is the place of the last of the times that is not after t
pub record IsFloor (times : List ℕ) (t j : ℕ) : Type 0 where
  pub inside : j < length times
  pub at : slice_index times j ≤ t
  pub above : (k : ℕ) → j < k → k < length times → t < slice_index times k

-- there is one, unless t is before them all
pub floor_of : (xs : List ℕ) → IsStrictlyIncreasing xs → (t : ℕ) → 0 < length xs → slice_index xs 0 ≤ t → (j : ℕ) × IsFloor xs t j
floor_of xs up t some le =
    let n : ℕ = prefix_len (λ x. nat_le x t) xs in
    let stops : n < length xs → t < slice_index xs n = λ l. leb-false _ _ (prefix_len_stops (λ x. nat_le x t) xs 0 l) in
    let first : n < length xs → 0 < n = λ l. place_below xs up 0 n some (omega (arith, stops l)) in
    let within : n ≤ length xs = prefix_len-le-length (λ x. nat_le x t) xs in
    let front : 0 < n = grind (arith, first) in
    let floor : IsFloor xs t (n - 1) = record {
      inside = omega arith;
      at = leb-true _ _ (prefix_len_passes (λ x. nat_le x t) xs (n - 1) 0 (omega arith));
      above = λ k a l. omega (arith, stops (omega arith), not_falling xs up n k (omega arith) l);
    } in
    (n - 1, floor)
