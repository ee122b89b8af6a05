-- Elements of lists, and lists in their order.
use Rattle.std.specs.Prelude.{◌≡◌, ◌⊎◌, ◌↔◌, zero, suc, Bool, true, false, cond, List, [], ◌∷◌, filter, map, Contains, refl}
use Rattle.std.proofs.Common.{arith, ap, sym, ◌∙◌, subst, inl, inr}
use Rattle.lists_postings.specs.Lists.{EachNext}
use Rattle.lists_postings.proofs.Order.{next-tail, next-later}

pub here : {X : Type 0} (x : X) (xs : List X) → Contains (x ∷ xs) x
here x xs = (zero, omega arith, refl)

pub later : {X : Type 0} (x y : X) (xs : List X) → Contains xs y → Contains (x ∷ xs) y
later x y xs (k, l, e) = (suc k, omega (arith, l), e)

pub here-or-later : {X : Type 0} (x y : X) (xs : List X) → Contains (x ∷ xs) y → (x ≡ y) ⊎ Contains xs y
here-or-later x y xs (zero, l, e) = inl e
here-or-later x y xs (suc k, l, e) = inr (k, omega (arith, l), e)

pub none : {X : Type 0} (x : X) → Contains [] x → ⊥
none x (k, l, e) = omega (arith, l)

module _ {X : Type 0} (R : X → X → Type 0) (trans : (x y z : X) → R x y → R y z → R x z) (never : (x y : X) → R x y → R y x → ⊥) where
  tails : (x y z : X) (xs ys : List X) → EachNext R (x ∷ xs) → x ≡ y → (Contains (x ∷ xs) z → Contains (y ∷ ys) z) → Contains xs z → Contains ys z
  tails x y z xs ys a e s c = elim (here-or-later y z ys (s (later x z xs c))) [
    | inl i ↦ let b = next-later R trans x z xs a c in let o = subst (λ w. R x w) (sym i ∙ sym e) b in absurd (never x x o o)
    | inr k ↦ k
  ]

  -- what stands in order stands so in one list
  pub one_order : (xs ys : List X) → EachNext R xs → EachNext R ys → ((x : X) → (Contains xs x ↔ Contains ys x)) → xs ≡ ys
  one_order [] [] a b s = refl
  one_order [] (y ∷ ys) a b s = absurd (none y ((s y).1 (here y ys)))
  one_order (x ∷ xs) [] a b s = absurd (none x ((s x).0 (here x xs)))
  one_order (x ∷ xs) (y ∷ ys) a b s = go (here-or-later y x ys ((s x).0 (here x xs))) (here-or-later x y xs ((s y).1 (here y ys))) (λ t. one_order xs ys (next-tail R x xs a) (next-tail R y ys b) t)
    where
      joined : x ≡ y → (((z : X) → (Contains xs z ↔ Contains ys z)) → xs ≡ ys) → x ∷ xs ≡ y ∷ ys
      joined e rest = let t = rest (λ z. (tails x y z xs ys a e (s z).0, tails y x z ys xs b (sym e) (s z).1)) in cc

      go : (y ≡ x) ⊎ Contains ys x → (x ≡ y) ⊎ Contains xs y → (((z : X) → (Contains xs z ↔ Contains ys z)) → xs ≡ ys) → x ∷ xs ≡ y ∷ ys
      go (inl e) d rest = joined (sym e) rest
      go (inr c) (inl e) rest = joined e rest
      go (inr c) (inr d) rest = absurd (never x y (next-later R trans x y xs a d) (next-later R trans y x ys b c))

pub filter-in : {X : Type 0} (p : X → Bool) (x : X) (xs : List X) → Contains xs x → p x ≡ true → Contains (filter p xs) x
filter-in p x [] c h = absurd (none x c)
filter-in p x (y ∷ xs) c h = go (p y) refl (here-or-later y x xs c) (λ k. filter-in p x xs k h)
  where
    go : (b : Bool) → p y ≡ b → (y ≡ x) ⊎ Contains xs x → (Contains xs x → Contains (filter p xs) x) → Contains (cond b (y ∷ filter p xs) (filter p xs)) x
    go true e (inl i) rest = subst (λ w. Contains (y ∷ filter p xs) w) i (here y (filter p xs))
    go true e (inr k) rest = later y x (filter p xs) (rest k)
    go false e (inl i) rest = absurd (let j = ap p i in cc)
    go false e (inr k) rest = rest k

pub filter-from : {X : Type 0} (p : X → Bool) (x : X) (xs : List X) → Contains (filter p xs) x → Contains xs x × (p x ≡ true)
filter-from p x [] c = absurd (none x c)
filter-from p x (y ∷ xs) c = go (p y) refl c (λ k. filter-from p x xs k)
  where
    go : (b : Bool) → p y ≡ b → Contains (cond b (y ∷ filter p xs) (filter p xs)) x → (Contains (filter p xs) x → Contains xs x × (p x ≡ true)) → Contains (y ∷ xs) x × (p x ≡ true)
    go true e c rest = elim (here-or-later y x (filter p xs) c) [
      | inl i ↦ (subst (λ w. Contains (y ∷ xs) w) i (here y xs), ap p (sym i) ∙ e)
      | inr k ↦ (later y x xs (rest k).0, (rest k).1)
    ]
    go false e c rest = (later y x xs (rest c).0, (rest c).1)

pub map-in : {X Y : Type 0} (f : X → Y) (x : X) (xs : List X) → Contains xs x → Contains (map f xs) (f x)
map-in f x [] c = absurd (none x c)
map-in f x (y ∷ xs) c = elim (here-or-later y x xs c) [ inl i ↦ subst (λ w. Contains (f y ∷ map f xs) w) (ap f i) (here (f y) (map f xs)) | inr k ↦ later (f y) (f x) (map f xs) (map-in f x xs k) ]

pub map-from : {X Y : Type 0} (f : X → Y) (y : Y) (xs : List X) → Contains (map f xs) y → (x : X) × Contains xs x × (f x ≡ y)
map-from f y [] c = absurd (none y c)
map-from f y (x ∷ xs) c = elim (here-or-later (f x) y (map f xs) c) [ inl i ↦ (x, here x xs, i) | inr k ↦ (let (z, m, e) = map-from f y xs k in (z, later x z xs m, e)) ]
