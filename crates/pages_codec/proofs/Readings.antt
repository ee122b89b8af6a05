-- What a reading gives: something holds of what it reads, and a fault is inside the bytes.
use Rattle.std.specs.Prelude.{◌≡◌, ℕ, ◌≤◌, Bool, true, false, cond, List, ◌++◌, length, Option, Some, None, Result, Ok, Err, refl}
use Rattle.std.proofs.Common.{sym, ap, subst, ◌∙◌, arith, append_assoc}
use Rattle.std.proofs.lemmas.List.{length-append}
use Rattle.base_types.specs.Reading.{◌>>=◌, value_or}
use Rattle.base_types.proofs.Bytes.{IsBytes}
use Rattle.base_types.proofs.Readings.{ok_is}

pub record Reads {X : Type 0} (Is : X → Type 0) (len : ℕ) (r : Result X ℕ) : Type 0 where
  pub read : (x : X) → r ≡ Ok x → Is x
  pub fails : (left : ℕ) → r ≡ Err left → left ≤ len

-- what was read stands in front of the rest, and this holds of both
pub record StandsIn {A : Type 0} (spell : A → List ℕ) (Is : A × List ℕ → Type 0) (bytes : List ℕ) (x : A × List ℕ) : Type 0 where
  pub parts : bytes ≡ spell x.0 ++ x.1
  pub rest_fits : IsBytes x.1
  pub holds : Is x

pub stands_within : {A : Type 0} (spell : A → List ℕ) (Is : A × List ℕ → Type 0) (bytes : List ℕ) (x : A × List ℕ) → StandsIn spell Is bytes x → length x.1 ≤ length bytes
stands_within spell Is bytes x is = omega (arith, length-append (spell x.0) x.1, ap (λ (bs : List ℕ). length bs) is.parts)

pub reads_ok : {X : Type 0} (Is : X → Type 0) (len : ℕ) (x : X) → Is x → Reads Is len (Ok x)
reads_ok Is len x is = record { read = λ y e. subst Is (ok_is x y e) is; fails = λ left e. absurd cc }

pub reads_err : {X : Type 0} (Is : X → Type 0) (len left : ℕ) → left ≤ len → Reads Is len (Err left)
reads_err Is len left le = record { read = λ x e. absurd cc; fails = λ l e. (let same : left ≡ l = cc in omega arith) }

pub reads_if : {X : Type 0} (Is : X → Type 0) (len : ℕ) (b : Bool) (r s : Result X ℕ) → (b ≡ true → Reads Is len r) → (b ≡ false → Reads Is len s) → Reads Is len (cond b r s)
reads_if Is len true r s one other = one refl
reads_if Is len false r s one other = other refl

pub reads_value : {X : Type 0} (Is : X → Type 0) (len : ℕ) (o : Option X) → ((x : X) → o ≡ Some x → Is x) → Reads Is len (value_or len o)
reads_value Is len (Some x) is = reads_ok Is len x (is x refl)
reads_value Is len None is = reads_err Is len len (omega arith)

-- one step after another
pub reads_then : {X Y : Type 0} (Is : X → Type 0) (Are : Y → Type 0) (m len : ℕ) (r : Result X ℕ) (f : X → Result Y ℕ) → Reads Is m r → m ≤ len → ((x : X) → Is x → Reads Are len (f x)) → Reads Are len (r >>= f)
reads_then Is Are m len (Ok x) f one le next = next x (one.read x refl)
reads_then Is Are m len (Err left) f one le next = let h = one.fails left refl in reads_err Are len left (omega arith)

-- the same where the next step reads what the first left, behind what it read
pub reads_next : {A B : Type 0} (s : A → List ℕ) (Is : A × List ℕ → Type 0) (t : B → List ℕ) (Are : B × List ℕ → Type 0) (front bytes : List ℕ) (r : Result (A × List ℕ) ℕ) (f : A × List ℕ → Result (B × List ℕ) ℕ) → Reads (StandsIn s Is bytes) (length bytes) r
    → ((x : A × List ℕ) → IsBytes x.1 → Is x → Reads (StandsIn t Are ((front ++ s x.0) ++ x.1)) (length ((front ++ s x.0) ++ x.1)) (f x)) → Reads (StandsIn t Are (front ++ bytes)) (length (front ++ bytes)) (r >>= f)
reads_next s Is t Are front bytes r f one next = reads_then (StandsIn s Is bytes) (StandsIn t Are (front ++ bytes)) (length bytes) (length (front ++ bytes)) r f one (omega (arith, length-append front bytes)) (λ x is.
    subst (λ (bs : List ℕ). Reads (StandsIn t Are bs) (length bs) (f x)) (append_assoc front (s x.0) x.1 ∙ ap (λ (bs : List ℕ). front ++ bs) (sym is.parts)) (next x is.rest_fits is.holds))

-- the same reading, behind something and as something else
pub reads_as : {A : Type 0} (s t : A → List ℕ) (Is Are : A × List ℕ → Type 0) (front bytes : List ℕ) (r : Result (A × List ℕ) ℕ) → Reads (StandsIn s Is bytes) (length bytes) r → ((x : A × List ℕ) → Is x → (front ++ s x.0 ≡ t x.0) × Are x) → Reads (StandsIn t Are (front ++ bytes)) (length (front ++ bytes)) r
reads_as s t Is Are front bytes r one same = record {
  read = λ x e. (let w = one.read x e in let a = same x w.holds in record {
    parts = ap (λ (bs : List ℕ). front ++ bs) w.parts ∙ sym (append_assoc front (s x.0) x.1) ∙ ap (λ (bs : List ℕ). bs ++ x.1) a.0;
    rest_fits = w.rest_fits;
    holds = a.1;
  });
  fails = λ left e. omega (arith, one.fails left e, length-append front bytes);
}
