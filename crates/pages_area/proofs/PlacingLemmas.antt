-- The lowest free run is there or isn't, and so parts are placed or have no room.
use Rattle.std.specs.Prelude.{◌≡◌, ◌⊎◌, ℕ, zero, suc, ◌+◌, ◌-◌, ◌^◌, ◌<◌, ◌≤◌, List, [], ◌∷◌, refl}
use Rattle.std.proofs.Common.{arith, subst, sym, inl, inr}
use Rattle.std.proofs.lemmas.Bool.{cases_lt}
use Rattle.base_types.specs.declared.extent.Extent.{Extent}
use Rattle.base_types.proofs.Equal.{same_extent}
use Rattle.pages_area.specs.Runs.{pages_for, IsTaken, IsFreeRun, IsLowestRun}
use Rattle.pages_area.proofs.CountLemmas.{taken_or_not}
use Rattle.pages_area.specs.Placing.{ArePlaced, HaveNoRoom, EachIsPlacedOrNot, NoneIsPlacedAndNot, OneListOfPlaces}

-- the lowest number of which it holds is below n, or it holds of none below n
lowest_or_none : (P : ℕ → Type 0) → ((i : ℕ) → P i ⊎ ¬ (P i)) → (n : ℕ) → ((low : ℕ) × ((low < n) × (P low × ((i : ℕ) → P i → low ≤ i)))) ⊎ ((i : ℕ) → i < n → ¬ (P i))
lowest_or_none P decide zero = inr (λ i l. absurd (omega (arith, l)))
lowest_or_none P decide (suc n) = elim (lowest_or_none P decide n) [
  | inl found ↦ inl (found.0, (omega (arith, found.1.0), found.1.1))
  | inr none ↦ elim (decide n) [
    | inl so ↦ inl (n, (omega arith, (so, λ i p. elim (cases_lt i n) [ inl l ↦ absurd (none i l p) | inr h ↦ h ])))
    | inr last ↦ inr (λ i l. elim (cases_lt i n) [ inl h ↦ none i h | inr h ↦ (let e : n ≡ i = omega (arith, l, h) in subst (λ j. ¬ (P j)) e last) ])
  ]
]

run_or_not : (extents : List Extent) (n first : ℕ) → IsFreeRun extents n first ⊎ ¬ (IsFreeRun extents n first)
run_or_not extents n first = elim (cases_lt (2 ^ 28) (first + n)) [
  | inl over ↦ inr (λ run. omega (arith, over, run.below))
  | inr below ↦ elim (lowest_or_none (λ k. IsTaken extents (first + k)) (λ k. taken_or_not extents (first + k)) n) [
    | inl found ↦ inr (λ run. run.free (first + found.0) (omega arith) (omega (arith, found.1.0)) found.1.1.0)
    | inr none ↦ inl (record {
      below = below;
      free = λ p low high taken. (let e : p ≡ first + (p - first) = omega (arith, low) in none (p - first) (omega (arith, low, high)) (subst (λ q. IsTaken extents q) e taken));
    })
  ]
]

-- there is a lowest run of n pages, or no run at all
run_or_none : (extents : List Extent) (n : ℕ) → ((first : ℕ) × IsLowestRun extents n first) ⊎ ((first : ℕ) → IsFreeRun extents n first → ⊥)
run_or_none extents n = elim (lowest_or_none (IsFreeRun extents n) (run_or_not extents n) (suc (2 ^ 28))) [
  | inl found ↦ inl (found.0, record { is = found.1.1.0; lowest = found.1.1.1 })
  | inr none ↦ inr (λ first run. none first (omega (arith, run.below)) run)
]

pub placed_or_not : EachIsPlacedOrNot
placed_or_not taken [] = inl ([], tt)
placed_or_not taken (bytes ∷ sizes) = elim (run_or_none taken (pages_for bytes)) [
  | inr none ↦ inr (inl none)
  | inl found ↦ (let below = found.1.is.below in
      let e : Extent = record { first = found.0; bytes = bytes; in_pages = below; numbered = omega (arith, below); sized = omega (arith, below) } in
      elim (placed_or_not (e ∷ taken) sizes) [ inl rest ↦ inl (e ∷ rest.0, (refl, found.1, rest.1)) | inr none ↦ inr (inr (e, refl, found.1, none)) ])
]

one_run : (extents : List Extent) (n a b : ℕ) → IsLowestRun extents n a → IsLowestRun extents n b → a ≡ b
one_run extents n a b x y = omega (arith, x.lowest b y.is, y.lowest a x.is)

one_extent : (extents : List Extent) (bytes : ℕ) (a b : Extent) → a.bytes ≡ bytes → b.bytes ≡ bytes → IsLowestRun extents (pages_for bytes) a.first → IsLowestRun extents (pages_for bytes) b.first → a ≡ b
one_extent extents bytes a b e f x y = same_extent a b (one_run extents (pages_for bytes) a.first b.first x y) (omega (arith, e, f))

pub none_is_placed_and_not : NoneIsPlacedAndNot
none_is_placed_and_not taken [] extents p h = h
none_is_placed_and_not taken (bytes ∷ sizes) [] p h = p
none_is_placed_and_not taken (bytes ∷ sizes) (e ∷ extents) p (inl none) = none e.first p.1.is
none_is_placed_and_not taken (bytes ∷ sizes) (e ∷ extents) p (inr (d, f, lowest, n)) =
    let same : d ≡ e = one_extent taken bytes d e f p.0 lowest p.1 in
    none_is_placed_and_not (e ∷ taken) sizes extents p.2 (subst (λ x. HaveNoRoom (x ∷ taken) sizes) same n)

pub one_list_of_places : OneListOfPlaces
one_list_of_places taken [] [] [] p q = refl
one_list_of_places taken [] [] (b ∷ bs) p q = absurd q
one_list_of_places taken [] (a ∷ xs) b p q = absurd p
one_list_of_places taken (bytes ∷ sizes) [] b p q = absurd p
one_list_of_places taken (bytes ∷ sizes) (a ∷ xs) [] p q = absurd q
one_list_of_places taken (bytes ∷ sizes) (a ∷ xs) (b ∷ bs) p q =
    let e : a ≡ b = one_extent taken bytes a b p.0 q.0 p.1 q.1 in
    let f : xs ≡ bs = one_list_of_places (a ∷ taken) sizes xs bs p.2 (subst (λ x. ArePlaced (x ∷ taken) sizes bs) (sym e) q.2) in
    cc
