-- Elements that stand by a number, and those of one number among them.
use Rattle.std.proofs.Common.{◌≡◌, ◌≢◌, ℕ, ◌+◌, ◌<◌, ◌≤◌, ◌==◌, nat_le, nat_lt, true, false, cond, List, [], ◌∷◌, ◌++◌, append-nil, append_assoc, length, get_or, take, drop, filter, All, refl, ap, sym, ◌∙◌, arith}
use Rattle.std.specs.List.Sorted.{IsPartitionPoint}
use Rattle.std.proofs.lemmas.Bool.{eq-eqb}
use Rattle.std.proofs.lemmas.Bool.Decides.{nat_tests}
use Rattle.std.proofs.lemmas.List.{take-append-drop, length-take-le, length-drop, get_or-take, get_or-drop}
use Rattle.std.proofs.lemmas.List.Elements.{filter-append, All-head, All-tail}

module _ {X : Type 0} (key : X → ℕ) where
  none : (d : ℕ) (xs : List X) → All (λ x. key x ≢ d) xs → filter (λ x. key x == d) xs ≡ []
  none d [] a = refl
  none d (x ∷ xs) a = ap (λ b. cond b (x ∷ filter (λ x. key x == d) xs) (filter (λ x. key x == d) xs)) (apart (key x) (All-head (λ x. key x ≢ d) x xs a)) ∙ none d xs (All-tail (λ x. key x ≢ d) x xs a)
    where
      apart : (n : ℕ) → n ≢ d → n == d ≡ false
      apart n k = grind (arith, nat_tests)

  all : (d : ℕ) (xs : List X) → All (λ x. key x ≡ d) xs → filter (λ x. key x == d) xs ≡ xs
  all d [] a = refl
  all d (x ∷ xs) a = ap (λ b. cond b (x ∷ filter (λ x. key x == d) xs) (filter (λ x. key x == d) xs)) (eq-eqb (key x) d (All-head (λ x. key x ≡ d) x xs a)) ∙ ap (λ l. x ∷ l) (all d xs (All-tail (λ x. key x ≡ d) x xs a))

  middle : (d : ℕ) (early mine late : List X) → All (λ x. key x ≢ d) early → All (λ x. key x ≡ d) mine → All (λ x. key x ≢ d) late → filter (λ x. key x == d) (early ++ mine ++ late) ≡ mine
  middle d early mine late a b c =
      filter-append (λ x. key x == d) (early ++ mine) late
      ∙ ap (λ l. l ++ filter (λ x. key x == d) late) (filter-append (λ x. key x == d) early mine)
      ∙ ap (λ l. (l ++ filter (λ x. key x == d) mine) ++ filter (λ x. key x == d) late) (none d early a)
      ∙ ap (λ l. filter (λ x. key x == d) mine ++ l) (none d late c)
      ∙ append-nil (filter (λ x. key x == d) mine) ∙ all d mine b

  -- what lies between two places is what has the number
  pub between : (d : ℕ) (xs : List X) (s k : ℕ) → s ≤ length xs → IsPartitionPoint (λ x. nat_lt (key x) d ≡ true) (λ x. nat_lt (key x) d ≡ false) xs s
      → k ≤ length (drop s xs) → IsPartitionPoint (λ x. nat_le (key x) d ≡ true) (λ x. nat_le (key x) d ≡ false) (drop s xs) k → take k (drop s xs) ≡ filter (λ x. key x == d) xs
  between d xs s k sl p kl q =
      sym (middle d (take s xs) (take k (drop s xs)) (drop k (drop s xs)) early mine late)
      ∙ ap (filter (λ x. key x == d)) (append_assoc (take s xs) (take k (drop s xs)) (drop k (drop s xs)) ∙ ap (λ l. take s xs ++ l) (take-append-drop k (drop s xs)) ∙ take-append-drop s xs)
    where
      lt : (n : ℕ) → nat_lt n d ≡ true → n ≢ d
      lt n e i = grind (arith, nat_tests)

      eq : (n : ℕ) → nat_lt n d ≡ false → nat_le n d ≡ true → n ≡ d
      eq n e f = grind (arith, nat_tests)

      gt : (n : ℕ) → nat_le n d ≡ false → n ≢ d
      gt n e i = grind (arith, nat_tests)

      early : All (λ x. key x ≢ d) (take s xs)
      early i x m = let n : i < s = omega (arith, m, length-take-le s xs sl) in rw (get_or-take s xs i x n) (lt (key (get_or xs i x)) (p.0 i x (omega arith) n))

      mine : All (λ x. key x ≡ d) (take k (drop s xs))
      mine i x m =
          let n : i < k = omega (arith, m, length-take-le k (drop s xs) kl) in
          rw (get_or-take k (drop s xs) i x n)
          (eq (key (get_or (drop s xs) i x)) (rw (get_or-drop s xs i x) (p.1 (s + i) x (omega arith) (omega (arith, n, kl, length-drop s xs)))) (q.0 i x (omega arith) n))

      late : All (λ x. key x ≢ d) (drop k (drop s xs))
      late i x m = rw (get_or-drop k (drop s xs) i x) (gt (key (get_or (drop s xs) (k + i) x)) (q.1 (k + i) x (omega arith) (omega (arith, m, length-drop k (drop s xs)))))
