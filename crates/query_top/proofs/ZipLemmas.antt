-- Lists beside one another.
use Rattle.std.specs.Prelude.{◌≡◌, ℕ, zero, suc, ◌+◌, ◌<◌, ◌≤◌, List, [], ◌∷◌, ◌++◌, length, take, get_or, refl}
use Rattle.std.specs.List.{AllZip}
use Rattle.std.proofs.Common.{arith, ap, add-one}
use Rattle.std.proofs.Math.ListN.{set}
use Rattle.query_top.specs.Firsts.{Each}

pub zip-at : {A B : Type 0} (R : A → B → Type 0) (xs : List A) (ys : List B) (i : ℕ) (x : A) (y : B) → AllZip R xs ys → i < length ys → R (get_or xs i x) (get_or ys i y)
zip-at R [] [] i x y z l = absurd (omega (arith, l))
zip-at R [] (b ∷ ys) i x y z l = absurd z
zip-at R (a ∷ xs) [] i x y z l = absurd z
zip-at R (a ∷ xs) (b ∷ ys) zero x y z l = z.0
zip-at R (a ∷ xs) (b ∷ ys) (suc i) x y z l = zip-at R xs ys i x y z.1 (omega (arith, l))

pub zip-set : {A B : Type 0} (R : A → B → Type 0) (xs : List A) (ys : List B) (i : ℕ) (x : A) (v : B) → AllZip R xs ys → i < length ys → R (get_or xs i x) v → AllZip R xs (set ys i v)
zip-set R [] [] i x v z l r = absurd (omega (arith, l))
zip-set R [] (b ∷ ys) i x v z l r = absurd z
zip-set R (a ∷ xs) [] i x v z l r = absurd z
zip-set R (a ∷ xs) (b ∷ ys) zero x v z l r = (r, z.1)
zip-set R (a ∷ xs) (b ∷ ys) (suc i) x v z l r = (z.0, zip-set R xs ys i x v z.1 (omega (arith, l)) r)

pub zip-long : {A B : Type 0} (R : A → B → Type 0) (xs : List A) (ys : List B) → AllZip R xs ys → length xs ≡ length ys
zip-long R [] [] z = refl
zip-long R [] (b ∷ ys) z = absurd z
zip-long R (a ∷ xs) [] z = absurd z
zip-long R (a ∷ xs) (b ∷ ys) z = let e = zip-long R xs ys z.1 in omega (arith, e)

pub zip-more : {A B : Type 0} (R : A → B → Type 0) (xs : List A) (ys : List B) (x : A) (y : B) → AllZip R xs ys → R x y → AllZip R (xs ++ x ∷ []) (ys ++ y ∷ [])
zip-more R [] [] x y z r = (r, tt)
zip-more R [] (b ∷ ys) x y z r = absurd z
zip-more R (a ∷ xs) [] x y z r = absurd z
zip-more R (a ∷ xs) (b ∷ ys) x y z r = (z.0, zip-more R xs ys x y z.1 r)

-- from what holds of each on the left
pub zip-with : {A B : Type 0} (P : A → Type 0) (R Q : A → B → Type 0) → ((a : A) (b : B) → P a → R a b → Q a b) → (xs : List A) (ys : List B) → Each P xs → AllZip R xs ys → AllZip Q xs ys
zip-with P R Q f [] [] e z = tt
zip-with P R Q f [] (b ∷ ys) e z = absurd z
zip-with P R Q f (a ∷ xs) [] e z = absurd z
zip-with P R Q f (a ∷ xs) (b ∷ ys) e z = (f a b e.0 z.0, zip-with P R Q f xs ys e.1 z.1)

-- with what holds of each on the right
pub zip-and : {A B : Type 0} (R : A → B → Type 0) (Q : B → Type 0) (xs : List A) (ys : List B) → AllZip R xs ys → Each Q ys → AllZip (λ a b. R a b × Q b) xs ys
zip-and R Q [] [] z e = tt
zip-and R Q [] (b ∷ ys) z e = absurd z
zip-and R Q (a ∷ xs) [] z e = absurd z
zip-and R Q (a ∷ xs) (b ∷ ys) z e = ((z.0, e.0), zip-and R Q xs ys z.1 e.1)

pub zip-each : {A B : Type 0} (R : A → B → Type 0) (Q : B → Type 0) → ((a : A) (b : B) → R a b → Q b) → (xs : List A) (ys : List B) → AllZip R xs ys → Each Q ys
zip-each R Q f [] [] z = tt
zip-each R Q f [] (b ∷ ys) z = absurd z
zip-each R Q f (a ∷ xs) [] z = absurd z
zip-each R Q f (a ∷ xs) (b ∷ ys) z = (f a b z.0, zip-each R Q f xs ys z.1)

pub zip-through : {A B C : Type 0} (R : A → B → Type 0) (S : B → C → Type 0) (T : A → C → Type 0) → ((a : A) (b : B) (c : C) → R a b → S b c → T a c)
    → (xs : List A) (ys : List B) (zs : List C) → AllZip R xs ys → AllZip S ys zs → AllZip T xs zs
zip-through R S T f [] [] [] y z = tt
zip-through R S T f [] [] (c ∷ zs) y z = absurd z
zip-through R S T f [] (b ∷ ys) zs y z = absurd y
zip-through R S T f (a ∷ xs) [] zs y z = absurd y
zip-through R S T f (a ∷ xs) (b ∷ ys) [] y z = absurd z
zip-through R S T f (a ∷ xs) (b ∷ ys) (c ∷ zs) y z = (f a b c y.0 z.0, zip-through R S T f xs ys zs y.1 z.1)

-- a property of the left list's elements goes over
pub each-over : {A B : Type 0} (R : A → B → Type 0) (P : A → Type 0) (Q : B → Type 0) → ((a : A) (b : B) → R a b → P a → Q b) → (xs : List A) (ys : List B) → AllZip R xs ys → Each P xs → Each Q ys
each-over R P Q f [] [] z e = tt
each-over R P Q f [] (b ∷ ys) z e = absurd z
each-over R P Q f (a ∷ xs) [] z e = absurd z
each-over R P Q f (a ∷ xs) (b ∷ ys) z e = (f a b z.0 e.0, each-over R P Q f xs ys z.1 e.1)

take-set-suc : {X : Type 0} (i : ℕ) (xs : List X) (v : X) → i < length xs → take (suc i) (set xs i v) ≡ take i xs ++ v ∷ []
take-set-suc i [] v l = absurd (omega (arith, l))
take-set-suc zero (x ∷ xs) v l = refl
take-set-suc (suc i) (x ∷ xs) v l = ap (λ ys. x ∷ ys) (take-set-suc i xs v (omega (arith, l)))

pub take-set : {X : Type 0} (i : ℕ) (xs : List X) (v : X) → i < length xs → take (i + 1) (set xs i v) ≡ take i xs ++ v ∷ []
take-set i xs v l = rw add-one (take-set-suc i xs v l)

pub get-past : {X : Type 0} (xs : List X) (i : ℕ) (d : X) → length xs ≤ i → get_or xs i d ≡ d
get-past [] i d l = refl
get-past (x ∷ xs) zero d l = absurd (omega (arith, l))
get-past (x ∷ xs) (suc i) d l = get-past xs i d (omega (arith, l))
