-- Sums and counts, element by element.
use Rattle.std.proofs.Common.{arith, ap, ◌∙◌, ◌≡◌, ℕ, zero, suc, ◌≤◌, Bool, true, false, cond, List, [], ◌∷◌, map, length, sum_by, count_by, All, refl, IsPermutation}
use Rattle.std.specs.List.Sorted.{IsPartitionPoint}
use Rattle.std.proofs.lemmas.List.Sorted.{sum_by-IsPermutation}
use Rattle.std.proofs.lemmas.List.Sums.{sum_by-cons, sum_by-le}
use Rattle.std.proofs.lemmas.List.Elements.{All-head, All-tail}

-- what a test adds to a count
abbrev pub bit : Bool → ℕ
bit b = cond b 1 0

pub sum_le : {X : Type 0} (f g : X → ℕ) (xs : List X) → All (λ x. f x ≤ g x) xs → sum_by f xs ≤ sum_by g xs
sum_le f g [] h = omega arith
sum_le f g (x ∷ xs) h =
    omega (arith, sum_by-cons f x xs, sum_by-cons g x xs, All-head (λ y. f y ≤ g y) x xs h, sum_le f g xs (All-tail (λ y. f y ≤ g y) x xs h))

pub sum_same : {X : Type 0} (f g : X → ℕ) (xs : List X) → All (λ x. f x ≡ g x) xs → sum_by f xs ≡ sum_by g xs
sum_same f g xs h = omega (arith, sum_le f g xs (λ i d l. omega (arith, h i d l)), sum_le g f xs (λ i d l. omega (arith, h i d l)))

pub sum_by-map : {X Y : Type 0} (f : Y → ℕ) (g : X → Y) (xs : List X) → sum_by f (map g xs) ≡ sum_by (λ x. f (g x)) xs
sum_by-map f g [] = refl
sum_by-map f g (x ∷ xs) = omega (arith, sum_by-cons f (g x) (map g xs), sum_by-cons (λ y. f (g y)) x xs, sum_by-map f g xs)

-- the numbers on the near side of a partition point are counted by it
pub count_split : {X : Type 0} (p : X → Bool) (xs : List X) (i : ℕ) → i ≤ length xs → IsPartitionPoint (λ y. p y ≡ true) (λ y. p y ≡ false) xs i → i ≡ count_by p xs
count_split p [] i l h = omega (arith, l)
count_split p (x ∷ xs) zero l (a, b) = omega (arith, sum_by-le (λ y. bit (p y)) 0 (x ∷ xs) (λ k d m. omega (arith, ap bit (b k d (omega arith) m))))
count_split p (x ∷ xs) (suc i) l (a, b) =
    let e : bit (p x) ≡ 1 = ap bit (a 0 x (omega arith) (omega arith)) in
    omega (arith, e, sum_by-cons (λ y. bit (p y)) x xs, count_split p xs i (omega (arith, l)) (λ k d h m. a (suc k) d (omega arith) (omega arith), λ k d h m. b (suc k) d (omega arith) (omega (arith, m))))

-- counts over numbers put in order are those over the list that they came from
pub counted : {X : Type 0} (p : ℕ → ℕ → Bool) (g : X → ℕ) (list : List X) (s z n times : List ℕ) → s ≡ map g list → IsPermutation s z → n ≡ z
    → map (λ t. count_by (λ x. p x t) n) times ≡ map (λ t. count_by (λ x. p (g x) t) list) times
counted p g list s z n times a m c =
    let moved : (t : ℕ) → count_by (λ x. p x t) z ≡ count_by (λ x. p (g x) t) list =
    λ t. sum_by-IsPermutation (λ y. bit (p y t)) s z m ∙ (ap (λ l. count_by (λ x. p x t) l) a ∙ sum_by-map (λ y. bit (p y t)) g list) in
    simp (c, moved)
