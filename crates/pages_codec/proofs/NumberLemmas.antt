-- Numbers as short as they can be.
use Rattle.std.specs.Prelude.{◌≡◌, if◌then◌else◌, ℕ, zero, suc, ◌+◌, ◌-◌, ◌*◌, ◌/◌, ◌%◌, ◌^◌, ◌<◌, ◌≤◌, false, cond, nat_lt, ◌==◌, List, [], ◌∷◌, ◌++◌, length, Option, Some, None, refl}
use Rattle.std.proofs.Common.{sym, ap, subst, ◌∙◌, arith, inl, inr}
use Rattle.std.proofs.lemmas.Bool.{cases_lt, lt-ltb, le-ltb, eqb-false, ne_eqb}
use Rattle.std.proofs.Math.Nat.{pow-succ', one-le-pow}
use Rattle.pages_codec.proofs.Steps.{guard_some}
use Rattle.base_types.proofs.Bytes.{IsBytes}
use Rattle.pages_codec.specs.Numbers.{number_bytes, with_low, number_at}

-- ---- bounds

pub pow_one_more : (most : ℕ) → 0 < most → 128 ^ most ≡ 128 * 128 ^ (most - 1)
pow_one_more most some = let e : most ≡ suc (most - 1) = omega arith in ap (λ k. 128 ^ k) e ∙ pow-succ' 128 (most - 1)

pub low_bound : (most low : ℕ) → 0 < most → low < 128 → low < 128 ^ most
low_bound most low some lt = omega (arith, pow_one_more most some, one-le-pow (most - 1) 128 (omega arith))

-- ---- one byte more

pub bytes_step : (most n : ℕ) → 0 < most → number_bytes most n ≡ (if nat_lt n 128 then n ∷ [] else (n % 128 + 128) ∷ number_bytes (most - 1) (n / 128))
unfolding number_bytes
bytes_step zero n some = absurd (omega arith)
bytes_step (suc most) n some = let e : most ≡ suc most - 1 = omega arith in ap (λ k. if nat_lt n 128 then n ∷ [] else (n % 128 + 128) ∷ number_bytes k (n / 128)) e

pub no_bytes : (most n : ℕ) → most ≡ 0 → number_bytes most n ≡ []
unfolding number_bytes
no_bytes zero n none = refl
no_bytes (suc most) n none = absurd (omega arith)

pub at_step : (most b : ℕ) (bytes : List ℕ) → 0 < most → number_at most (b ∷ bytes) ≡ (if nat_lt b 128 then Some (b, bytes) else with_low b (number_at (most - 1) bytes))
unfolding number_at
at_step zero b bytes some = absurd (omega arith)
at_step (suc most) b bytes some = let e : most ≡ suc most - 1 = omega arith in ap (λ k. if nat_lt b 128 then Some (b, bytes) else with_low b (number_at k bytes)) e

pub at_none : (most : ℕ) (bytes : List ℕ) → most ≡ 0 → number_at most bytes ≡ None
unfolding number_at
at_none zero bytes none = refl
at_none (suc most) bytes none = absurd (omega arith)

pub at_nothing : (most : ℕ) (bytes : List ℕ) → length bytes ≡ 0 → number_at most bytes ≡ None
unfolding number_at
at_nothing zero bytes none = refl
at_nothing (suc most) [] none = refl
at_nothing (suc most) (b ∷ bytes) none = absurd (omega arith)

pub ruleset number_steps = (bytes_step, at_step, at_none, at_nothing)

-- ---- what is read is spelled so

pub record IsNumber (most : ℕ) (bytes : List ℕ) (read : ℕ × List ℕ) : Type 0 where
  pub parts : bytes ≡ number_bytes most read.0 ++ read.1
  pub rest_fits : IsBytes read.1

some_pair : (x y : ℕ × List ℕ) → Some x ≡ Some y → x ≡ y
some_pair x y e = cc

low_parts : (b : ℕ) (o : Option (ℕ × List ℕ)) (read : ℕ × List ℕ) → with_low b o ≡ Some read → (high : ℕ × List ℕ) × (o ≡ Some high) × (0 < high.0) × (read ≡ (b - 128 + 128 * high.0, high.1))
low_parts b None read e = absurd cc
low_parts b (Some high) read e =
    let g = guard_some (high.0 == 0) (Some (b - 128 + 128 * high.0, high.1)) read e in
    let h = eqb-false high.0 0 g.0 in
    (high, refl, omega arith, some_pair read (b - 128 + 128 * high.0, high.1) (sym g.1))

high_number : (most b : ℕ) (bytes : List ℕ) (high : ℕ × List ℕ) → b < 256 → 128 ≤ b → 0 < high.0 → IsNumber most bytes high → IsNumber (suc most) (b ∷ bytes) (b - 128 + 128 * high.0, high.1)
unfolding number_bytes
high_number most b bytes high lt le more again =
    let n = b - 128 + 128 * high.0 in
    let big : nat_lt n 128 ≡ false = le-ltb n 128 (omega arith) in
    let low : n % 128 + 128 ≡ b = omega arith in
    let rest : n / 128 ≡ high.0 = omega arith in
    let spelled : number_bytes (suc most) n ≡ b ∷ number_bytes most high.0 = ap (λ t. cond t (n ∷ []) ((n % 128 + 128) ∷ number_bytes most (n / 128))) big ∙ (λ i. low i ∷ number_bytes most (rest i)) in
    record {
      parts = ap (λ (xs : List ℕ). b ∷ xs) again.parts ∙ ap (λ (xs : List ℕ). xs ++ high.1) (sym spelled);
      rest_fits = again.rest_fits;
    }

pub number_taken : (most : ℕ) (bytes : List ℕ) (read : ℕ × List ℕ) → IsBytes bytes → number_at most bytes ≡ Some read → IsNumber most bytes read
unfolding number_at number_bytes
number_taken zero bytes read fits e = absurd cc
number_taken (suc most) [] read fits e = absurd cc
number_taken (suc most) (b ∷ bytes) read fits e =
    elim (cases_lt b 128) [
      | inl lt ↦
          let is : Some (b, bytes) ≡ Some read = sym (ap (λ t. cond t (Some (b, bytes)) (with_low b (number_at most bytes))) (lt-ltb b 128 lt)) ∙ e in
          subst (IsNumber (suc most) (b ∷ bytes)) (some_pair (b, bytes) read is) (record {
            parts = ap (λ (xs : List ℕ). xs ++ bytes) (sym (ap (λ t. cond t (b ∷ []) ((b % 128 + 128) ∷ number_bytes most (b / 128))) (lt-ltb b 128 lt)));
            rest_fits = λ i. fits (suc i);
          })
      | inr le ↦
          let is : with_low b (number_at most bytes) ≡ Some read = sym (ap (λ t. cond t (Some (b, bytes)) (with_low b (number_at most bytes))) (le-ltb b 128 le)) ∙ e in
          let l = low_parts b (number_at most bytes) read is in
          let again = number_taken most bytes l.0 (λ i. fits (suc i)) l.1 in
          subst (IsNumber (suc most) (b ∷ bytes)) (sym l.3) (high_number most b bytes l.0 (fits 0) le l.2 again)
    ]

pub number_again : (most n : ℕ) (rest : List ℕ) → 0 < most → n < 128 ^ most → number_at most (number_bytes most n ++ rest) ≡ Some (n, rest)
unfolding number_at number_bytes
number_again zero n rest some lt = absurd (omega arith)
number_again (suc most) n rest some lt =
    elim (cases_lt n 128) [
      | inl small ↦ rw (lt-ltb n 128 small, lt-ltb n 128 small) refl
      | inr le ↦
          let fits : n / 128 < 128 ^ most = omega (arith, pow-succ' 128 most) in
          let more : 0 < most = positive most fits le in
          let big : nat_lt (n % 128 + 128) 128 ≡ false = le-ltb (n % 128 + 128) 128 (omega arith) in
          let again = number_again most (n / 128) rest more fits in
          let not_0 : (n / 128 == 0) ≡ false = ne_eqb (n / 128) 0 (omega arith) in
          let whole : n % 128 + 128 - 128 + 128 * (n / 128) ≡ n = omega arith in
          rw (le-ltb n 128 le, big, again, not_0, whole) refl
    ]
  where
    positive : (m : ℕ) → n / 128 < 128 ^ m → 128 ≤ n → 0 < m
    positive zero fits le = absurd (omega arith)
    positive (suc m) fits le = omega arith
