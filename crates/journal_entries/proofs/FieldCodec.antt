-- Fields in front of bytes: what is read was spelled so, and what was spelled is read again.
use Rattle.std.specs.Prelude.{◌≡◌, ℕ, ◌<◌, ◌≤◌, List, ◌++◌, length, Option, Some, None, Result, Ok, refl}
use Rattle.std.proofs.Common.{sym, ap, subst, ◌∙◌, arith}
use Rattle.std.specs.Int.{Width, to_be_bytes}
use Rattle.base_types.specs.Reading.{◌>>=◌, value_or}
use Rattle.journal_entries.specs.FieldReading.{number_at}
use Rattle.journal_entries.specs.PlanReading.{named_at}
use Rattle.base_types.proofs.Readings.{bind_ok, ok_is, Within, Within-then, Within-next}
use Rattle.base_types.proofs.Readings.{value_or-ok}
use Rattle.base_types.proofs.Bytes.{IsBytes, IsWide}
use Rattle.journal_entries.proofs.FieldLemmas.{Takes, number_takes, number_again, number_within}

-- a reading of a front, how its values are spelled, and which values have a spelling
pub record IsField (A : Type 0) (read : List ℕ → Result (A × List ℕ) ℕ) (spelled : A → List ℕ) (Fits : A → Type 0) : Type 0 where
  pub takes : (bytes : List ℕ) (x : A × List ℕ) → IsBytes bytes → read bytes ≡ Ok x → Takes bytes (spelled x.0) x.1 × Fits x.0
  pub again : (x : A) (rest : List ℕ) → Fits x → read (spelled x ++ rest) ≡ Ok (x, rest)
  pub within : (bytes : List ℕ) → Within (λ x. length x.1) (length bytes) (read bytes)

-- ---- a value that a number names

named_within : {A : Type 0} (n : ℕ × List ℕ) (len : ℕ) (o : Option A) → length n.1 ≤ len → Within (λ (x : A × List ℕ). length x.1) len (value_or len o >>= λ x. Ok (x, n.1))
named_within n len (Some x) le = le
named_within n len None le = omega arith

pub named : (A : Type 0) (w : Width) (limit : ℕ) (wide : IsWide w limit) (value : ℕ → Option A) (number : A → ℕ) (Fits : A → Type 0)
    → ((n : ℕ) (x : A) → n < limit → value n ≡ Some x → (number x ≡ n) × Fits x)
    → ((x : A) → Fits x → (number x < limit) × (value (number x) ≡ Some x))
    → IsField A (named_at w value) (λ x. to_be_bytes w (number x)) Fits
named A w limit wide value number Fits told names = record {
  takes = λ bytes x fits e. (
      let n = bind_ok (number_at w bytes) _ x e in
      let t = bind_ok (value_or (length bytes) (value n.0.0)) _ x n.2 in
      let taken = number_takes w limit wide bytes n.0.0 n.0.1 fits n.1 in
      let is = told n.0.0 t.0 taken.1 (value_or-ok (length bytes) (value n.0.0) t.0 t.1) in
      subst (λ (y : A × List ℕ). Takes bytes (to_be_bytes w (number y.0)) y.1 × Fits y.0) (ok_is (t.0, n.0.1) x t.2)
      (subst (λ (k : ℕ). Takes bytes (to_be_bytes w k) n.0.1) (sym is.0) taken.0, is.1)
      );
  again = λ x rest fits. (let f = names x fits in rw (number_again w limit wide (number x) rest f.0, f.1) refl);
  within = λ bytes. Within-then (λ x. length x.1) (λ x. length x.1) (length bytes) (number_at w bytes) _ (number_within w bytes) (λ n le. named_within n (length bytes) (value n.0) le);
}

-- ---- two fields that make one

pub both : (A B C : Type 0) (make : A → B → C)
    (ra : List ℕ → Result (A × List ℕ) ℕ) (sa : A → List ℕ) (FA : A → Type 0)
    (rb : A → List ℕ → Result (B × List ℕ) ℕ) (sb : B → List ℕ) (FB : A → B → Type 0)
    (sc : C → List ℕ) (FC : C → Type 0)
    → IsField A ra sa FA → ((a : A) → IsField B (rb a) sb (FB a))
    → ((a : A) (b : B) → FA a → FB a b → ((rest : List ℕ) → sc (make a b) ++ rest ≡ sa a ++ (sb b ++ rest)) × FC (make a b))
    → ((c : C) → FC c → (a : A) × (b : B) × (make a b ≡ c) × FA a × FB a b)
    → IsField C (λ bytes. ra bytes >>= λ a. rb a.0 a.1 >>= λ b. Ok (make a.0 b.0, b.1)) sc FC
both A B C make ra sa FA rb sb FB sc FC first second joined parts = record {
  takes = λ bytes x fits e. (
      let a = bind_ok (ra bytes) _ x e in
      let b = bind_ok (rb a.0.0 a.0.1) _ x a.2 in
      let one = first.takes bytes a.0 fits a.1 in
      let two = (second a.0.0).takes a.0.1 b.0 one.0.rest_fits b.1 in
      let is = joined a.0.0 b.0.0 one.1 two.1 in
      let whole : bytes ≡ sc (make a.0.0 b.0.0) ++ b.0.1 = one.0.parts ∙ ap (λ (rest : List ℕ). sa a.0.0 ++ rest) two.0.parts ∙ sym (is.0 b.0.1) in
      subst (λ (y : C × List ℕ). Takes bytes (sc y.0) y.1 × FC y.0) (ok_is (make a.0.0 b.0.0, b.0.1) x b.2)
      (record { parts = whole; rest_fits = two.0.rest_fits }, is.1)
      );
  again = λ c rest fits. (
      let p = parts c fits in
      let read = λ (bytes : List ℕ). ra bytes >>= λ a. rb a.0 a.1 >>= λ b. Ok (make a.0 b.0, b.1) in
      let inner : read (sa p.0 ++ (sb p.1 ++ rest)) ≡ Ok (make p.0 p.1, rest) = rw (first.again p.0 (sb p.1 ++ rest) p.3, (second p.0).again p.1 rest p.4) refl in
      subst (λ (z : C). read (sc z ++ rest) ≡ Ok (z, rest)) p.2 (ap read ((joined p.0 p.1 p.3 p.4).0 rest) ∙ inner)
      );
  within = λ bytes.
      Within-next (λ x. length x.1) (λ x. length x.1) (length bytes) (ra bytes) _ (first.within bytes) (λ a.
      Within-then (λ x. length x.1) (λ x. length x.1) (length a.1) (rb a.0 a.1) _ ((second a.0).within a.1) (λ b le. le));
}
