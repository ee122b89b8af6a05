-- Elements of lists by their places.
use Rattle.std.specs.Prelude.{◌≡◌, ◌⊎◌, ℕ, zero, suc, ◌-◌, ◌<◌, List, [], ◌∷◌, ◌++◌, length, slice_get, Option, Some, None, IsSomeAnd, refl}
use Rattle.std.proofs.Common.{arith, ap, inl, inr, length-append}
use Rattle.lists_versions.specs.Changes.{last_of}

-- an element that is there
pub some_of : {A : Type 0} (o : Option A) (P : A → Type 0) → IsSomeAnd o P → (x : A) × (o ≡ Some x) × P x
some_of (Some x) P p = (x, refl, p)
some_of None P p = absurd p

-- the element behind a list
pub slice_get-end : {A : Type 0} (xs : List A) (x : A) → slice_get (xs ++ x ∷ []) (length xs) ≡ Some x
slice_get-end [] x = refl
slice_get-end (y ∷ xs) x = slice_get-end xs x

-- the last of a list
pub last_of-push : {A : Type 0} (xs : List A) (x : A) → last_of (xs ++ x ∷ []) ≡ Some x
last_of-push xs x = let n : length (xs ++ x ∷ []) - 1 ≡ length xs = omega (arith, length-append xs (x ∷ [])) in rw n (slice_get-end xs x)

-- an element keeps its place where the list grows
pub slice_get-grown : {A : Type 0} (xs ys : List A) (i : ℕ) (x : A) → slice_get xs i ≡ Some x → slice_get (xs ++ ys) i ≡ Some x
slice_get-grown [] ys i x h = absurd (cc)
slice_get-grown (y ∷ xs) ys zero x h = h
slice_get-grown (y ∷ xs) ys (suc i) x h = slice_get-grown xs ys i x h

-- an element of a list that grew by one is an old one, or the new one
pub slice_get-either : {A : Type 0} (xs : List A) (y : A) (i : ℕ) (x : A) → slice_get (xs ++ y ∷ []) i ≡ Some x → (slice_get xs i ≡ Some x) ⊎ ((i ≡ length xs) × (x ≡ y))
slice_get-either [] y zero x h = inr (refl, cc)
slice_get-either [] y (suc i) x h = absurd (cc)
slice_get-either (z ∷ xs) y zero x h = inl h
slice_get-either (z ∷ xs) y (suc i) x h = elim (slice_get-either xs y i x h) [ inl e ↦ inl e | inr e ↦ inr (ap suc e.0, e.1) ]

-- an element at a place of the list
pub element_at : {A : Type 0} (xs : List A) (i : ℕ) → i < length xs → (x : A) × (slice_get xs i ≡ Some x)
element_at [] i n = absurd (omega arith)
element_at (x ∷ xs) zero n = (x, refl)
element_at (x ∷ xs) (suc i) n = element_at xs i (omega arith)
