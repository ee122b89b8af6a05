-- Lists in the order of a number, in which elements of one number stand as they did: there is one such list, and one only.
use Rattle.std.proofs.Common.{◌≡◌, ◌≢◌, ◌⊎◌, inl, inr, ℕ, zero, suc, ◌<◌, ◌≤◌, ◌==◌, nat_le, ◌&&◌, not, Bool, true, false, cond, List, [], ◌∷◌, map, filter, All, refl, ap, sym, subst, ◌∙◌, arith}
use Rattle.std.specs.List.Sorted.{IsNonDecreasingBy, IsPermutation, ties}
use Rattle.std.specs.Ordering.{nat_cmp, is_lt}
use Rattle.std.proofs.lemmas.Bool.{eq-eqb, cases_lt}
use Rattle.std.proofs.lemmas.Bool.Decides.{nat_tests}
use Rattle.std.proofs.lemmas.List.Elements.{All-nil, All-cons, All-head, All-tail, All-weaker, filter_agree, filter_passes}
use Rattle.std.proofs.lemmas.List.Sorted.{IsPermutation-refl, IsPermutation-cons, IsPermutation-trans, IsPermutation-middle}

-- numbers that a sort can't tell apart
tied : (a b : ℕ) → not (is_lt (nat_cmp a b)) && not (is_lt (nat_cmp b a)) ≡ (b == a)
tied a b = grind (arith, nat_tests)

apart : (m n : ℕ) → m ≢ n → m == n ≡ false
apart m n k = grind (arith, nat_tests)

same : (m n : ℕ) → m == n ≡ true → m ≡ n
same m n h = grind (arith, nat_tests)

below : (m n : ℕ) → nat_le m n ≡ true → m ≤ n
below m n h = grind (arith, nat_tests)

above : (m n : ℕ) → nat_le m n ≡ false → n < m
above m n h = grind (arith, nat_tests)

module _ {X : Type 0} (key : X → ℕ) where
  -- each stands in front of none that is lower
  abbrev pub Ascends : List X → Type 0
  Ascends [] = Unit {0}
  Ascends (x ∷ xs) = All (λ y. key x ≤ key y) xs × Ascends xs

  pub ascends : (xs : List X) → IsNonDecreasingBy key xs → Ascends xs
  ascends [] up = tt
  ascends (x ∷ xs) up = (λ i d l. up 0 (suc i) d (omega arith) (omega (arith, l)), ascends xs (λ i j d h l. up (suc i) (suc j) d (omega (arith, h)) (omega (arith, l))))

  pub rises : (xs : List X) → Ascends xs → IsNonDecreasingBy key xs
  rises [] up i j d h l = absurd (omega (arith, l))
  rises (x ∷ xs) up zero zero d h l = omega arith
  rises (x ∷ xs) up zero (suc j) d h l = up.0 j d (omega (arith, l))
  rises (x ∷ xs) up (suc i) zero d h l = absurd (omega (arith, h))
  rises (x ∷ xs) up (suc i) (suc j) d h l = rises xs up.1 i j d (omega (arith, h)) (omega (arith, l))

  -- one more, in front of the first that isn't lower; and a list put in order so
  abbrev into : X → List X → List X
  into x [] = x ∷ []
  into x (y ∷ ys) = cond (nat_le (key x) (key y)) (x ∷ y ∷ ys) (y ∷ into x ys)

  abbrev pub in_order : List X → List X
  in_order [] = []
  in_order (x ∷ xs) = into x (in_order xs)

  abbrev of : ℕ → List X → List X
  of n xs = filter (λ x. key x == n) xs

  into-swaps : (x : X) (ys : List X) → IsPermutation (x ∷ ys) (into x ys)
  into-swaps x [] = IsPermutation-refl (x ∷ [])
  into-swaps x (y ∷ ys) = by (nat_le (key x) (key y)) (into-swaps x ys)
    where
      by : (b : Bool) → IsPermutation (x ∷ ys) (into x ys) → IsPermutation (x ∷ y ∷ ys) (cond b (x ∷ y ∷ ys) (y ∷ into x ys))
      by true rest = IsPermutation-refl (x ∷ y ∷ ys)
      by false rest = IsPermutation-trans (x ∷ y ∷ ys) (y ∷ x ∷ ys) (y ∷ into x ys) (IsPermutation-middle (x ∷ []) y ys) (IsPermutation-cons y (x ∷ ys) (into x ys) rest)

  pub in_order-swaps : (xs : List X) → IsPermutation xs (in_order xs)
  in_order-swaps [] = IsPermutation-refl []
  in_order-swaps (x ∷ xs) = IsPermutation-trans (x ∷ xs) (x ∷ in_order xs) (into x (in_order xs)) (IsPermutation-cons x xs (in_order xs) (in_order-swaps xs)) (into-swaps x (in_order xs))

  into-all : (P : X → Type 0) (x : X) (ys : List X) → P x → All P ys → All P (into x ys)
  into-all P x [] p all = All-cons P x [] p (All-nil P)
  into-all P x (y ∷ ys) p all = by (nat_le (key x) (key y)) (into-all P x ys p (All-tail P y ys all))
    where
      by : (b : Bool) → All P (into x ys) → All P (cond b (x ∷ y ∷ ys) (y ∷ into x ys))
      by true rest = All-cons P x (y ∷ ys) p all
      by false rest = All-cons P y (into x ys) (All-head P y ys all) rest

  into-up : (x : X) (ys : List X) → Ascends ys → Ascends (into x ys)
  into-up x [] up = (All-nil (λ y. key x ≤ key y), tt)
  into-up x (y ∷ ys) up = by (nat_le (key x) (key y)) refl (into-up x ys up.1)
    where
      by : (b : Bool) → nat_le (key x) (key y) ≡ b → Ascends (into x ys) → Ascends (cond b (x ∷ y ∷ ys) (y ∷ into x ys))
      by true is rest =
          let le = below (key x) (key y) is in
          (All-cons (λ z. key x ≤ key z) y ys le (All-weaker (λ z. key y ≤ key z) (λ z. key x ≤ key z) (λ z h. omega (arith, le, h)) ys up.0), up)
      by false is rest = let lt = above (key x) (key y) is in (into-all (λ z. key y ≤ key z) x ys (omega (arith, lt)) up.0, rest)

  pub in_order-up : (xs : List X) → Ascends (in_order xs)
  in_order-up [] = tt
  in_order-up (x ∷ xs) = into-up x (in_order xs) (in_order-up xs)

  into-same : (n : ℕ) (x : X) (ys : List X) → of n (into x ys) ≡ of n (x ∷ ys)
  into-same n x [] = refl
  into-same n x (y ∷ ys) = by (nat_le (key x) (key y)) refl (into-same n x ys)
    where
      turned : (a b : Bool) (l : List X) → (a ≡ true → b ≡ true → ⊥) → cond b (y ∷ cond a (x ∷ l) l) (cond a (x ∷ l) l) ≡ cond a (x ∷ cond b (y ∷ l) l) (cond b (y ∷ l) l)
      turned true true l never = absurd (never refl refl)
      turned true false l never = refl
      turned false true l never = refl
      turned false false l never = refl

      by : (b : Bool) → nat_le (key x) (key y) ≡ b → of n (into x ys) ≡ of n (x ∷ ys) → of n (cond b (x ∷ y ∷ ys) (y ∷ into x ys)) ≡ of n (x ∷ y ∷ ys)
      by true is rest = refl
      by false is rest =
          ap (λ l. cond (key y == n) (y ∷ l) l) rest
          ∙ turned (key x == n) (key y == n) (of n ys) (λ e f. omega (arith, above (key x) (key y) is, same (key x) n e, same (key y) n f))

  pub in_order-same : (n : ℕ) (xs : List X) → of n (in_order xs) ≡ of n xs
  in_order-same n [] = refl
  in_order-same n (x ∷ xs) = into-same n x (in_order xs) ∙ ap (λ l. cond (key x == n) (x ∷ l) l) (in_order-same n xs)

  -- one order
  none : (n : ℕ) (xs : List X) → All (λ x. n < key x) xs → of n xs ≡ []
  none n [] all = refl
  none n (x ∷ xs) all =
      let h = All-head (λ x. n < key x) x xs all in
      ap (λ b. cond b (x ∷ of n xs) (of n xs)) (apart (key x) n (λ e. omega (arith, e, h))) ∙ none n xs (All-tail (λ x. n < key x) x xs all)

  itself : (x : X) (xs : List X) → of (key x) (x ∷ xs) ≡ x ∷ of (key x) xs
  itself x xs = ap (λ b. cond b (x ∷ of (key x) xs) (of (key x) xs)) (eq-eqb (key x) (key x) refl)

  never : (x : X) (xs : List X) → of (key x) (x ∷ xs) ≡ [] → ⊥
  never x xs e = let f = sym (itself x xs) ∙ e in absurd cc

  lower : (x y : X) (xs ys : List X) → Ascends (y ∷ ys) → of (key x) (x ∷ xs) ≡ of (key x) (y ∷ ys) → key x < key y → ⊥
  lower x y xs ys up e lt =
      never x xs (e ∙ none (key x) (y ∷ ys) (All-cons (λ z. key x < key z) y ys lt (All-weaker (λ z. key y ≤ key z) (λ z. key x < key z) (λ z h. omega (arith, lt, h)) ys up.0)))

  pub one_order : (xs ys : List X) → Ascends xs → Ascends ys → ((n : ℕ) → of n xs ≡ of n ys) → xs ≡ ys
  one_order [] [] up down e = refl
  one_order [] (y ∷ ys) up down e = absurd (never y ys (sym (e (key y))))
  one_order (x ∷ xs) [] up down e = absurd (never x xs (e (key x)))
  one_order (x ∷ xs) (y ∷ ys) up down e = go (cases_lt (key x) (key y)) (cases_lt (key y) (key x)) (one_order xs ys up.1 down.1)
    where
      rest : key x ≡ key y → x ≡ y → (n : ℕ) → of n xs ≡ of n ys
      rest k z n = by (key x == n) (key y == n) (ap (λ m. m == n) k) (e n)
        where
          by : (a b : Bool) → a ≡ b → cond a (x ∷ of n xs) (of n xs) ≡ cond b (y ∷ of n ys) (of n ys) → of n xs ≡ of n ys
          by true true i h = cc
          by false false i h = h
          by true false i h = absurd cc
          by false true i h = absurd cc

      heads : key x ≡ key y → x ≡ y
      heads k =
          let f : x ∷ of (key x) xs ≡ y ∷ of (key x) ys = sym (itself x xs) ∙ e (key x) ∙ ap (λ n. of n (y ∷ ys)) k ∙ itself y ys ∙ ap (λ n. y ∷ of n ys) (sym k) in
          cc

      go : (key x < key y) ⊎ (key y ≤ key x) → (key y < key x) ⊎ (key x ≤ key y) → (((n : ℕ) → of n xs ≡ of n ys) → xs ≡ ys) → x ∷ xs ≡ y ∷ ys
      go (inl lt) o behind = absurd (lower x y xs ys down (e (key x)) lt)
      go (inr ge) (inl gt) behind = absurd (lower y x ys xs up (sym (e (key y))) gt)
      go (inr ge) (inr le) behind =
          let k : key x ≡ key y = omega (arith, ge, le) in
          let z = heads k in
          ap (λ w. w ∷ xs) z ∙ ap (λ l. y ∷ l) (behind (rest k z))

  -- a stable sort keeps the order of those of one number
  pub stable-of : (xs ys : List X) → ((x : X) → filter (ties (λ p q. is_lt (nat_cmp (key p) (key q))) x) ys ≡ filter (ties (λ p q. is_lt (nat_cmp (key p) (key q))) x) xs) → (n : ℕ) → of n ys ≡ of n xs
  stable-of xs ys s n = go (of n xs) (of n ys) refl refl
    where
      at : (x : X) → of (key x) ys ≡ of (key x) xs
      at x = sym (filter_agree (ties (λ p q. is_lt (nat_cmp (key p) (key q))) x) (λ y. key y == key x) (λ y. tied (key x) (key y)) ys) ∙ s x ∙ filter_agree (ties (λ p q. is_lt (nat_cmp (key p) (key q))) x) (λ y. key y == key x) (λ y. tied (key x) (key y)) xs

      here : (x : X) (zs kept : List X) → of n zs ≡ x ∷ kept → key x ≡ n
      here x zs kept e = same (key x) n (All-head (λ z. key z == n ≡ true) x kept (subst (All (λ z. key z == n ≡ true)) e (filter_passes (λ x. key x == n) zs)))

      go : (fx fy : List X) → of n xs ≡ fx → of n ys ≡ fy → of n ys ≡ of n xs
      go [] [] e f = f ∙ sym e
      go (x ∷ fx) fy e f = subst (λ m. of m ys ≡ of m xs) (here x xs fx e) (at x)
      go [] (y ∷ fy) e f = subst (λ m. of m ys ≡ of m xs) (here y ys fy f) (at y)

-- what is shown of elements has their numbers
module _ {X Y : Type 0} (shown : X → Y) (key : X → ℕ) (place : Y → ℕ) where
  pub shown-of : (n : ℕ) (xs : List X) → All (λ x. key x ≡ place (shown x)) xs → of place n (map shown xs) ≡ map shown (of key n xs)
  shown-of n [] all = refl
  shown-of n (x ∷ xs) all = by (key x == n) (place (shown x) == n) (ap (λ k. k == n) (All-head (λ x. key x ≡ place (shown x)) x xs all)) (shown-of n xs (All-tail (λ x. key x ≡ place (shown x)) x xs all))
    where
      by : (a b : Bool) → a ≡ b → of place n (map shown xs) ≡ map shown (of key n xs) → cond b (shown x ∷ of place n (map shown xs)) (of place n (map shown xs)) ≡ map shown (cond a (x ∷ of key n xs) (of key n xs))
      by true true e rest = ap (λ l. shown x ∷ l) rest
      by false false e rest = rest
      by true false e rest = absurd cc
      by false true e rest = absurd cc

  shown-above : (m : ℕ) (xs : List X) → All (λ x. key x ≡ place (shown x)) xs → All (λ x. m ≤ key x) xs → All (λ y. m ≤ place y) (map shown xs)
  shown-above m [] all up = All-nil (λ y. m ≤ place y)
  shown-above m (x ∷ xs) all up =
      All-cons (λ y. m ≤ place y) (shown x) (map shown xs) (omega (arith, All-head (λ x. key x ≡ place (shown x)) x xs all, All-head (λ x. m ≤ key x) x xs up))
      (shown-above m xs (All-tail (λ x. key x ≡ place (shown x)) x xs all) (All-tail (λ x. m ≤ key x) x xs up))

  pub shown-up : (xs : List X) → All (λ x. key x ≡ place (shown x)) xs → Ascends key xs → Ascends place (map shown xs)
  shown-up [] all up = tt
  shown-up (x ∷ xs) all up =
      let e = All-head (λ x. key x ≡ place (shown x)) x xs all in
      let rest = All-tail (λ x. key x ≡ place (shown x)) x xs all in
      (shown-above (place (shown x)) xs rest (All-weaker (λ y. key x ≤ key y) (λ y. place (shown x) ≤ key y) (λ y h. omega (arith, e, h)) xs up.0), shown-up xs rest up.1)
