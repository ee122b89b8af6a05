-- What holds of each element.
use Rattle.std.specs.Prelude.{◌≡◌, ℕ, zero, suc, ◌+◌, ◌<◌, List, [], ◌∷◌, ◌++◌, length, take, drop, get_or, refl}
use Rattle.std.proofs.Common.{arith, ap, add-one}
use Rattle.query_top.specs.Firsts.{Each}

pub each-append : {X : Type 0} (P : X → Type 0) (xs ys : List X) → Each P xs → Each P ys → Each P (xs ++ ys)
each-append P [] ys a b = b
each-append P (x ∷ xs) ys a b = (a.0, each-append P xs ys a.1 b)

pub each-left : {X : Type 0} (P : X → Type 0) (xs ys : List X) → Each P (xs ++ ys) → Each P xs
each-left P [] ys a = tt
each-left P (x ∷ xs) ys a = (a.0, each-left P xs ys a.1)

pub each-right : {X : Type 0} (P : X → Type 0) (xs ys : List X) → Each P (xs ++ ys) → Each P ys
each-right P [] ys a = a
each-right P (x ∷ xs) ys a = each-right P xs ys a.1

pub each-weaker : {X : Type 0} (P Q : X → Type 0) → ((x : X) → P x → Q x) → (xs : List X) → Each P xs → Each Q xs
each-weaker P Q w [] a = tt
each-weaker P Q w (x ∷ xs) a = (w x a.0, each-weaker P Q w xs a.1)

pub each-both : {X : Type 0} (P Q : X → Type 0) (xs : List X) → Each P xs → Each Q xs → Each (λ x. P x × Q x) xs
each-both P Q [] a b = tt
each-both P Q (x ∷ xs) a b = ((a.0, b.0), each-both P Q xs a.1 b.1)

pub each-at : {X : Type 0} (P : X → Type 0) (n : ℕ) (xs : List X) (d : X) → n < length xs → Each P xs → P (get_or xs n d)
each-at P zero [] d l a = absurd (omega arith)
each-at P (suc n) [] d l a = absurd (omega arith)
each-at P zero (x ∷ xs) d l a = a.0
each-at P (suc n) (x ∷ xs) d l a = each-at P n xs d (omega arith) a.1

-- the element at a place, and those behind it
drop-suc : {X : Type 0} (n : ℕ) (xs : List X) (d : X) → n < length xs → drop n xs ≡ get_or xs n d ∷ drop (suc n) xs
drop-suc zero [] d l = absurd (omega arith)
drop-suc (suc n) [] d l = absurd (omega arith)
drop-suc zero (x ∷ xs) d l = refl
drop-suc (suc n) (x ∷ xs) d l = drop-suc n xs d (omega arith)

pub drop-at : {X : Type 0} (n : ℕ) (xs : List X) (d : X) → n < length xs → drop n xs ≡ get_or xs n d ∷ drop (n + 1) xs
drop-at n xs d l = rw add-one (drop-suc n xs d l)

take-suc : {X : Type 0} (n : ℕ) (xs : List X) (d : X) → n < length xs → take (suc n) xs ≡ take n xs ++ get_or xs n d ∷ []
take-suc zero [] d l = absurd (omega arith)
take-suc (suc n) [] d l = absurd (omega arith)
take-suc zero (x ∷ xs) d l = refl
take-suc (suc n) (x ∷ xs) d l = ap (λ ys. x ∷ ys) (take-suc n xs d (omega arith))

pub take-at : {X : Type 0} (n : ℕ) (xs : List X) (d : X) → n < length xs → take (n + 1) xs ≡ take n xs ++ get_or xs n d ∷ []
take-at n xs d l = rw add-one (take-suc n xs d l)

pub split-at : {X : Type 0} (n : ℕ) (xs : List X) → xs ≡ take n xs ++ drop n xs
split-at zero xs = refl
split-at (suc n) [] = refl
split-at (suc n) (x ∷ xs) = ap (λ ys. x ∷ ys) (split-at n xs)
