-- Reading step by step: what a reading that did not fail did, and where one that failed stopped.
use Rattle.std.specs.Prelude.{◌≡◌, ◌⊎◌, ℕ, Bool, true, false, cond, Option, Some, None, Result, Ok, Err, refl}
use Rattle.std.proofs.Common.{sym, ap, inl, inr}
use Rattle.base_types.specs.Reading.{◌>>=◌, value_or}

-- a test that did not fail
pub test_ok : {A : Type 0} (b : Bool) (x y : A) (left : ℕ) → cond b (Ok x) (Err left) ≡ Ok y → (b ≡ true) × (x ≡ y)
test_ok true x y left e = (refl, cc)
test_ok false x y left e = absurd cc

pub guard_ok : {A : Type 0} (b : Bool) (x y : A) (left : ℕ) → cond b (Err left) (Ok x) ≡ Ok y → (b ≡ false) × (x ≡ y)
guard_ok true x y left e = absurd cc
guard_ok false x y left e = (refl, cc)

abbrev pub good : (A : Type 0) → A → Result A ℕ
good A x = Ok x

abbrev pub fails : (A : Type 0) → ℕ → Result A ℕ
fails A left = Err left

pub err_is : (A : Type 0) (x y : ℕ) → fails A x ≡ fails A y → x ≡ y
err_is A x y e = cc

pub no_fault : (A : Type 0) (x : A) (left : ℕ) → good A x ≡ fails A left → ⊥
no_fault A x left e = cc

-- the step of a reading that failed
pub bind_err : (A B : Type 0) (r : Result A ℕ) (f : A → Result B ℕ) (left : ℕ) → (r >>= f) ≡ Err left → (r ≡ Err left) ⊎ ((x : A) × (r ≡ Ok x) × (f x ≡ Err left))
bind_err A B (Ok x) f left e = inr (x, refl, e)
bind_err A B (Err k) f left e = inl (ap (fails A) (err_is B k left e))

-- what was read and made into something else failed as it was read
pub made_err : (A B : Type 0) (r : Result A ℕ) (make : A → B) (left : ℕ) → (r >>= λ x. good B (make x)) ≡ Err left → r ≡ Err left
made_err A B (Ok x) make left e = absurd (no_fault B (make x) left e)
made_err A B (Err k) make left e = ap (fails A) (err_is B k left e)

-- the place of a test that failed
pub test_err : (A : Type 0) (b : Bool) (x : A) (left place : ℕ) → cond b (Ok x) (Err place) ≡ Err left → (b ≡ false) × (left ≡ place)
test_err A true x left place e = absurd (no_fault A x left e)
test_err A false x left place e = (refl, sym (err_is A place left e))

pub guard_err : (A : Type 0) (b : Bool) (x : A) (left place : ℕ) → cond b (Err place) (Ok x) ≡ Err left → (b ≡ true) × (left ≡ place)
guard_err A true x left place e = (refl, sym (err_is A place left e))
guard_err A false x left place e = absurd (no_fault A x left e)

pub value_or-err : (A : Type 0) (place : ℕ) (o : Option A) (left : ℕ) → value_or place o ≡ Err left → left ≡ place
value_or-err A place (Some x) left e = absurd (no_fault A x left e)
value_or-err A place None left e = sym (err_is A place left e)

-- steps in another order of brackets
regroup_last : (B C D : Type 0) (r : Result B ℕ) (make : B → C) (g : C → Result D ℕ) → (r >>= λ b. g (make b)) ≡ ((r >>= λ b. good C (make b)) >>= g)
regroup_last B C D (Ok b) make g = refl
regroup_last B C D (Err k) make g = refl

pub regroup : (A B C D : Type 0) (r : Result A ℕ) (f : A → Result B ℕ) (make : A → B → C) (g : C → Result D ℕ)
    → (r >>= λ a. f a >>= λ b. g (make a b)) ≡ ((r >>= λ a. f a >>= λ b. good C (make a b)) >>= g)
regroup A B C D (Ok a) f make g = regroup_last B C D (f a) (make a) g
regroup A B C D (Err k) f make g = refl
