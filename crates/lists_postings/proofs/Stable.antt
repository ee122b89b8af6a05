-- Elements that are sorted by a number, and those of one number among them.
use Rattle.std.specs.Prelude.{◌≡◌, ℕ, ◌==◌, true, not, ◌&&◌, List, [], ◌∷◌, filter, All}
use Rattle.std.specs.List.Sorted.{ties}
use Rattle.std.specs.Ordering.{nat_cmp, is_lt}
use Rattle.std.proofs.Common.{arith, refl, sym, ◌∙◌, subst}
use Rattle.std.proofs.lemmas.Bool.Decides.{nat_tests}
use Rattle.std.proofs.lemmas.List.Elements.{All-head, filter_agree, filter_passes}

-- numbers that a sort can't tell apart are one
tied : (a b : ℕ) → not (is_lt (nat_cmp a b)) && not (is_lt (nat_cmp b a)) ≡ (b == a)
tied a b = grind (arith, nat_tests)

module _ {X : Type 0} (key : X → ℕ) where
  -- and a stable sort keeps the order of those of one number
  pub stable-of : (xs ys : List X) → ((x : X) → filter (ties (λ p q. is_lt (nat_cmp (key p) (key q))) x) ys ≡ filter (ties (λ p q. is_lt (nat_cmp (key p) (key q))) x) xs) → (d : ℕ) → filter (λ x. key x == d) ys ≡ filter (λ x. key x == d) xs
  stable-of xs ys s d = go (filter (λ x. key x == d) xs) (filter (λ x. key x == d) ys) refl refl
    where
      at : (x : X) → filter (λ y. key y == key x) ys ≡ filter (λ y. key y == key x) xs
      at x = sym (filter_agree (ties (λ p q. is_lt (nat_cmp (key p) (key q))) x) (λ y. key y == key x) (λ y. tied (key x) (key y)) ys) ∙ s x ∙ filter_agree (ties (λ p q. is_lt (nat_cmp (key p) (key q))) x) (λ y. key y == key x) (λ y. tied (key x) (key y)) xs

      same : (n : ℕ) → n == d ≡ true → n ≡ d
      same n h = grind (arith, nat_tests)

      of : (x : X) (zs kept : List X) → filter (λ x. key x == d) zs ≡ x ∷ kept → key x ≡ d
      of x zs kept e = same (key x) (All-head (λ z. key z == d ≡ true) x kept (subst (All (λ z. key z == d ≡ true)) e (filter_passes (λ x. key x == d) zs)))

      go : (fx fy : List X) → filter (λ x. key x == d) xs ≡ fx → filter (λ x. key x == d) ys ≡ fy → filter (λ x. key x == d) ys ≡ filter (λ x. key x == d) xs
      go [] [] e f = f ∙ sym e
      go (x ∷ fx) fy e f = subst (λ n. filter (λ x. key x == n) ys ≡ filter (λ x. key x == n) xs) (of x xs fx e) (at x)
      go [] (y ∷ fy) e f = subst (λ n. filter (λ x. key x == n) ys ≡ filter (λ x. key x == n) xs) (of y ys fy f) (at y)
