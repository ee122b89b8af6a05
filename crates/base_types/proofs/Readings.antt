-- Reading step by step: what a reading that did not fail did, and where one that failed stopped.
use Rattle.std.specs.Prelude.{◌≡◌, ℕ, ◌≤◌, Option, Some, None, Result, Ok, Err, refl}
use Rattle.std.proofs.Common.{arith}
use Rattle.base_types.specs.Reading.{◌>>=◌, value_or}

abbrev done : {A : Type 0} → A → Result A ℕ
done x = Ok x

-- a value that was read is the one value
pub ok_is : {A : Type 0} (x y : A) → done x ≡ done y → x ≡ y
ok_is x y e = cc

-- the value of a step that did not fail
pub bind_ok : {A B : Type 0} (r : Result A ℕ) (f : A → Result B ℕ) (y : B) → (r >>= f) ≡ Ok y → (x : A) × (r ≡ Ok x) × (f x ≡ Ok y)
bind_ok (Ok x) f y e = (x, refl, e)
bind_ok (Err left) f y e = absurd cc

pub value_or-ok : {A : Type 0} (left : ℕ) (o : Option A) (x : A) → value_or left o ≡ Ok x → o ≡ Some x
value_or-ok left (Some y) x e = cc
value_or-ok left None x e = absurd cc

-- a reading of so many bytes leaves no more of them, nor does its failure
abbrev pub Within : {A : Type 0} → (A → ℕ) → ℕ → Result A ℕ → Type 0
Within rest len (Ok x) = rest x ≤ len
Within rest len (Err left) = left ≤ len

pub Within-more : {A : Type 0} (rest : A → ℕ) (m n : ℕ) (r : Result A ℕ) → m ≤ n → Within rest m r → Within rest n r
Within-more rest m n (Ok x) le w = omega arith
Within-more rest m n (Err left) le w = omega arith

pub Within-then : {A B : Type 0} (rest : A → ℕ) (last : B → ℕ) (len : ℕ) (r : Result A ℕ) (f : A → Result B ℕ) → Within rest len r → ((x : A) → rest x ≤ len → Within last len (f x)) → Within last len (r >>= f)
Within-then rest last len (Ok x) f w next = next x w
Within-then rest last len (Err left) f w next = w

-- the same where the next step reads what the first left
pub Within-next : {A B : Type 0} (rest : A → ℕ) (last : B → ℕ) (len : ℕ) (r : Result A ℕ) (f : A → Result B ℕ) → Within rest len r → ((x : A) → Within last (rest x) (f x)) → Within last len (r >>= f)
Within-next rest last len r f w next = Within-then rest last len r f w (λ x le. Within-more last (rest x) len (f x) le (next x))

pub Within-err : {A : Type 0} (rest : A → ℕ) (len : ℕ) (r : Result A ℕ) (left : ℕ) → Within rest len r → r ≡ Err left → left ≤ len
Within-err rest len (Ok x) left w e = absurd cc
Within-err rest len (Err k) left w e = let same : k ≡ left = cc in omega arith
