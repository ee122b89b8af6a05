-- The stops fall, and lie among the boundaries.
use Rattle.std.specs.Prelude.{◌≡◌, ℕ, ◌+◌, ◌-◌, ◌*◌, ◌<◌, ◌≤◌, min, List, length, slice_index}
use Rattle.std.proofs.Common.{arith, ap, ◌∙◌, inl, inr, mul-zero}
use Rattle.std.specs.Int.{div_ceil}
use Rattle.std.proofs.lemmas.Grind.{div_ceil_times}
use Rattle.std.proofs.lemmas.Bool.{cases_lt}
use Rattle.std.proofs.Math.Nat.{mul-le-mul_right}
use Rattle.plans_space.specs.Caps.{stride}
use Rattle.plans_space.specs.Steps.{AreStops}

pub min_to : (a b : ℕ) → min a b ≤ b
min_to a b = grind arith

min_at : (a b : ℕ) → a ≤ b → min a b ≡ a
min_at a b h = grind arith

pub min_past : (a b : ℕ) → b ≤ a → min a b ≡ b
min_past a b h = grind arith

min_both : (a b c : ℕ) → c < a → c < b → c < min a b
min_both a b c h k = grind arith

-- numbers of gaps times the stride
below : (m s n a c : ℕ) → m * s + 1 ≤ n + s → n ≤ m * s → 1 ≤ n → a < c → c ≤ m → min (a * s) n < min (c * s) n
below m s n a c reach whole some lt le = rw (min_at (a * s) n (omega (arith, up, top, reach))) (min_both (c * s) n (a * s) (omega (arith, up, positive)) (omega (arith, up, top, reach)))
  where
    positive : 0 < s
    positive = elim (cases_lt 0 s) [
      | inl h ↦ h
      | inr h ↦ let e : s ≡ 0 = omega (arith, h) in absurd (omega (arith, whole, some, ap (λ x. m * x) e, mul-zero m))
    ]

    up : (a + 1) * s ≤ c * s
    up = mul-le-mul_right {m = a + 1} s (omega arith)

    top : (a + 1) * s ≤ m * s
    top = mul-le-mul_right {m = a + 1} s (omega arith)

pub stop_falls : (boundaries : ℕ) (places : List ℕ) → 2 ≤ boundaries → AreStops boundaries places → (j i : ℕ) → j < i → i < length places → slice_index places i < slice_index places j
stop_falls boundaries places some s j i lt l = omega (
  arith,
  s.each i l,
  s.each j (omega arith),
  below (length places - 1) (stride (boundaries - 1)) (boundaries - 1) (length places - 1 - i) (length places - 1 - j) s.reach s.whole (omega arith) (omega arith) (omega arith),
)

pub stop_inside : (boundaries : ℕ) (places : List ℕ) → 2 ≤ boundaries → AreStops boundaries places → (i : ℕ) → i < length places → slice_index places i < boundaries
stop_inside boundaries places some s i l = omega (arith, s.each i l, min_to ((length places - 1 - i) * stride (boundaries - 1)) (boundaries - 1))

-- rounded up, a quotient of what isn't 0 isn't 0
up_some : (a b : ℕ) → 1 ≤ a → 0 < b → 1 ≤ div_ceil a b
up_some a b l p = elim (cases_lt 0 (div_ceil a b)) [
  | inl h ↦ h
  | inr h ↦ let e : div_ceil a b ≡ 0 = omega (arith, h) in absurd (omega (arith, l, (div_ceil_times a b p).0, ap (λ x. x * b) e))
]

-- that many gaps of the stride reach the end, and one fewer don't
gaps_are : (n s gaps : ℕ) → 1 ≤ n → s ≡ stride n → gaps ≡ div_ceil n s → (1 ≤ gaps) × (gaps ≤ 127) × (gaps * s + 1 ≤ n + s) × (n ≤ gaps * s)
gaps_are n s gaps some e f = (omega (arith, f, up_some n s some positive), few, omega (arith, less), whole)
  where
    positive : 0 < s
    positive = omega (arith, e, up_some n 127 some (omega arith))

    whole : n ≤ gaps * s
    whole = omega (arith, (div_ceil_times n s positive).0, ap (λ x. x * s) f)

    less : gaps * s < n + s
    less = omega (arith, (div_ceil_times n s positive).1, ap (λ x. x * s) f)

    reach : n ≤ s * 127
    reach = omega (arith, (div_ceil_times n 127 (omega arith)).0, e)

    few : gaps ≤ 127
    few = elim (cases_lt 127 gaps) [
      | inl h ↦ absurd (omega (arith, less, reach, mul-le-mul_right {m = 128} {n = gaps} s (omega (arith, h))))
      | inr h ↦ h
    ]

pub stops_are : (boundaries gaps s : ℕ) (places : List ℕ) → 2 ≤ boundaries → s ≡ stride (boundaries - 1) → gaps ≡ div_ceil (boundaries - 1) s → length places ≡ gaps + 1
    → ((k : ℕ) → k < gaps + 1 → slice_index places k ≡ min ((gaps - k) * s) (boundaries - 1)) → AreStops boundaries places
stops_are boundaries gaps s places some e f long each =
    let h : gaps ≡ length places - 1 = omega (arith, long) in
    let a : (1 ≤ gaps) × (gaps ≤ 127) × (gaps * s + 1 ≤ boundaries - 1 + s) × (boundaries - 1 ≤ gaps * s) = gaps_are (boundaries - 1) s gaps (omega arith) e f in
    let m : gaps * s ≡ (length places - 1) * stride (boundaries - 1) = ap (λ g. g * s) h ∙ ap (λ x. (length places - 1) * x) e in
    record {
      some = omega (arith, long, a.0);
      few = omega (arith, long, a.1);
      reach = omega (arith, m, e, a.2);
      whole = omega (arith, m, a.3);
      each = λ i l. each i (omega (arith, long)) ∙ ap (λ g. min ((g - i) * s) (boundaries - 1)) h ∙ ap (λ x. min ((length places - 1 - i) * x) (boundaries - 1)) e;
    }

-- the first of them is the last boundary, and the last of them the first
module _ (boundaries : ℕ) (places : List ℕ) (s : AreStops boundaries places) where
  pub stop_last : slice_index places 0 ≡ boundaries - 1
  stop_last = let e : length places - 1 - 0 ≡ length places - 1 = omega arith in
      s.each 0 (omega (arith, s.some)) ∙ (ap (λ z. min (z * stride (boundaries - 1)) (boundaries - 1)) e ∙ min_past ((length places - 1) * stride (boundaries - 1)) (boundaries - 1) s.whole)

  pub stop_first : slice_index places (length places - 1) ≡ 0
  stop_first = let e : length places - 1 - (length places - 1) ≡ 0 = omega arith in
      s.each (length places - 1) (omega (arith, s.some)) ∙ (ap (λ z. min (z * stride (boundaries - 1)) (boundaries - 1)) e ∙ omega arith)
