-- Weights from counts by number.
use Rattle.std.proofs.Common.{◌≡◌, ℕ, suc, ◌+◌, ◌<◌, ◌≤◌, Bool, true, false, cond, nat_eq, Some, unwrap_or, subst, List, [], ◌∷◌, ◌++◌, length, get_or, take, map, refl, ap, sym, ◌∙◌, arith}
use Rattle.std.specs.List.{IsDistinct, AllByRecursion, sum_by}
use Rattle.std.specs.Map.{lookup}
use Rattle.std.specs.List.Sorted.{IsNonDecreasingBy, IsPermutation}
use Rattle.std.proofs.lemmas.Bool.Decides.{nat_tests}
use Rattle.std.proofs.lemmas.List.{take_more, length-take-le}
use Rattle.std.proofs.lemmas.List.Sums.{sum_by-cons}
use Rattle.std.proofs.lemmas.List.Sorted.{sum_by-IsPermutation, IsPermutation-map}
use Rattle.std.proofs.lemmas.Map.Keys.{IsDistinct-head, IsDistinct-tail, IsDistinct-IsPermutation}
use Rattle.text_words.specs.Words.{numbered_from, weight_at}
use Rattle.lists_tails.specs.declared.weight.Weight.{Weight}
use Rattle.lists_tails.specs.Weights.{AreWeights, weight_of}
use Rattle.lists_index.specs.Measuring.{numbered, pairs_of}

-- one count more
numbered-push : (n : ℕ) (xs : List ℕ) (x : ℕ) → numbered n (xs ++ x ∷ []) ≡ numbered n xs ++ (n + length xs, x) ∷ []
numbered-push n [] x = ap (λ m. (m, x) ∷ []) (omega arith)
numbered-push n (y ∷ xs) x = ap (λ l. (n, y) ∷ l) (numbered-push (n + 1) xs x ∙ ap (λ m. numbered (n + 1) xs ++ (m, x) ∷ []) (omega arith))

pub numbered-more : (n i : ℕ) (xs : List ℕ) → i < length xs → numbered n (take (i + 1) xs) ≡ numbered n (take i xs) ++ (n + i, get_or xs i 0) ∷ []
numbered-more n i xs l =
    ap (numbered n) (take_more xs i 0 l) ∙ numbered-push n (take i xs) (get_or xs i 0)
    ∙ ap (λ m. numbered n (take i xs) ++ (m, get_or xs i 0) ∷ []) (omega (arith, length-take-le i xs (omega (arith, l))))

pub numbered-is : (n : ℕ) (es : List (List ℕ × ℕ)) → numbered n (map (λ e. e.1) es) ≡ numbered_from n es
numbered-is n [] = refl
numbered-is n (e ∷ es) = ap (λ l. (n, e.1) ∷ l) (numbered-is (n + 1) es)

-- what a number has by weights is what it has by pairs
weight-pairs : (w : ℕ) (weights : List Weight) → weight_of w weights ≡ weight_at w (pairs_of weights)
weight-pairs w [] = refl
weight-pairs w (x ∷ weights) = by (nat_eq x.word.number w) (weight-pairs w weights)
  where
    by : (b : Bool) → weight_of w weights ≡ weight_at w (pairs_of weights) → cond b x.tf (weight_of w weights) ≡ unwrap_or (cond b (Some x.tf) (lookup (λ m. nat_eq m w) (pairs_of weights))) 0
    by true h = refl
    by false h = h

-- where numbers stand once, the order of pairs doesn't matter
abbrev share : ℕ → ℕ × ℕ → ℕ
share n p = cond (nat_eq p.0 n) p.1 0

flip : (m n : ℕ) → nat_eq m n ≡ false → nat_eq n m ≡ false
flip m n e = grind (arith, nat_tests)

none-else : (n : ℕ) (ps : List (ℕ × ℕ)) → AllByRecursion (λ m. nat_eq n m ≡ false) (map (λ p. p.0) ps) → sum_by (share n) ps ≡ 0
none-else n [] a = refl
none-else n (p ∷ ps) a = sum_by-cons (share n) p ps ∙ ap (λ b. cond b p.1 0 + sum_by (share n) ps) (flip n p.0 a.0) ∙ (let r = none-else n ps a.1 in omega arith)

weight-sum : (n : ℕ) (ps : List (ℕ × ℕ)) → IsDistinct nat_eq (map (λ p. p.0) ps) → weight_at n ps ≡ sum_by (share n) ps
weight-sum n [] h = refl
weight-sum n (p ∷ ps) h = by (nat_eq p.0 n) refl (weight-sum n ps (IsDistinct-tail nat_eq p.0 (map (λ p. p.0) ps) h)) ∙ sym (sum_by-cons (share n) p ps)
  where
    is : nat_eq p.0 n ≡ true → p.0 ≡ n
    is e = grind (arith, nat_tests)

    by : (b : Bool) → nat_eq p.0 n ≡ b → weight_at n ps ≡ sum_by (share n) ps → unwrap_or (cond b (Some p.1) (lookup (λ m. nat_eq m n) ps)) 0 ≡ cond b p.1 0 + sum_by (share n) ps
    by true e rest =
        let none : sum_by (share n) ps ≡ 0 = none-else n ps (subst (λ k. AllByRecursion (λ m. nat_eq k m ≡ false) (map (λ p. p.0) ps)) (is e) (IsDistinct-head nat_eq p.0 (map (λ p. p.0) ps) h)) in
        omega (arith, none)
    by false e rest = rest ∙ omega arith

pub once-sorted : (ps qs : List (ℕ × ℕ)) → IsPermutation ps qs → IsDistinct nat_eq (map (λ p. p.0) ps) → IsDistinct nat_eq (map (λ p. p.0) qs)
once-sorted ps qs p h = IsDistinct-IsPermutation nat_eq (λ x y. grind (arith, nat_tests)) (map (λ p. p.0) ps) (map (λ p. p.0) qs) (IsPermutation-map (λ p. p.0) ps qs p) h

-- sorted pairs of numbers that stand once are weights
ascend : (weights : List Weight) → IsNonDecreasingBy (λ p. p.0) (pairs_of weights) → IsDistinct nat_eq (map (λ p. p.0) (pairs_of weights)) → AreWeights weights
ascend [] up once = tt
ascend (x ∷ []) up once = tt
ascend (x ∷ y ∷ weights) up once = (
  less (up 0 1 (0, 0) (omega arith) (omega arith)) (IsDistinct-head nat_eq x.word.number (map (λ p. p.0) (pairs_of (y ∷ weights))) once).0,
  ascend (y ∷ weights) (λ i j d l n. up (suc i) (suc j) d (omega (arith, l)) (omega (arith, n))) (IsDistinct-tail nat_eq x.word.number (map (λ p. p.0) (pairs_of (y ∷ weights))) once),
)
  where
    less : x.word.number ≤ y.word.number → nat_eq x.word.number y.word.number ≡ false → x.word.number < y.word.number
    less l e = grind (arith, nat_tests)

pub sorted-weights : (counts sorted : List (ℕ × ℕ)) (weights : List Weight) → IsPermutation counts sorted → IsNonDecreasingBy (λ p. p.0) sorted → IsDistinct nat_eq (map (λ p. p.0) counts) → pairs_of weights ≡ sorted → AreWeights weights
sorted-weights counts sorted weights p up once e =
    ascend weights (subst (IsNonDecreasingBy (λ p. p.0)) (sym e) up) (subst (λ ps. IsDistinct nat_eq (map (λ p. p.0) ps)) (sym e) (once-sorted counts sorted p once))

pub weight-permuted : (ps qs : List (ℕ × ℕ)) → IsPermutation ps qs → IsDistinct nat_eq (map (λ p. p.0) ps) → (w : ℕ) → weight_at w qs ≡ weight_at w ps
weight-permuted ps qs p once w = weight-sum w qs (once-sorted ps qs p once) ∙ sum_by-IsPermutation (share w) ps qs p ∙ sym (weight-sum w ps once)

pub sorted-counts : (counts sorted : List (ℕ × ℕ)) (weights : List Weight) → IsPermutation counts sorted → IsDistinct nat_eq (map (λ p. p.0) counts) → pairs_of weights ≡ sorted → (w : ℕ) → weight_of w weights ≡ weight_at w counts
sorted-counts counts sorted weights p once e w = weight-pairs w weights ∙ ap (weight_at w) e ∙ weight-permuted counts sorted p once w
