-- The days of this crate are those of the calendar of `jiff`.
use Rattle.std.specs.Prelude.{◌≡◌, ℕ, zero, suc, ◌+◌, ◌-◌, ◌*◌, ◌≤◌, ℤ, pos, ◌+ℤ◌, ◌-ℤ◌, ◌*ℤ◌, unsigned_abs, refl}
use Rattle.std.specs.Prelude.{int_div, true}
use Rattle.std.proofs.Common.{arith, ap, ◌∙◌, le-leb}
use Rattle.jiff.proofs.SpanFacts.{signed_arith}
use Rattle.jiff_core.specs.Calendar.{days_in_year as jiff_year, days_of_years as jiff_years, days_of_months as jiff_months, day_count, days_from_civil}
use Rattle.script_read.specs.Dates.{days_in_year, days_in_month, days_of_years, days_of_months, day_number, is_day}

months : (y n : ℕ) → jiff_months (pos y) n ≡ days_of_months y n
unfolding jiff_months
months y zero = refl
months y (suc n) = ap (λ k. k + days_in_month y (suc n)) (months y n)

year_after : (n : ℕ) → (pos (11970 + n) -ℤ pos 10000) ≡ pos (1970 + n)
year_after n = omega (arith, signed_arith)

next : (n : ℕ) → jiff_years (suc n) ≡ jiff_years n + jiff_year (pos n -ℤ pos 10000)
unfolding jiff_years
next n = refl

years : (n : ℕ) → jiff_years (11970 + n) ≡ jiff_years 11970 + days_of_years n
years zero = let e : 11970 + 0 ≡ 11970 = omega arith in ap jiff_years e ∙ omega arith
years (suc n) =
    let step : 11970 + suc n ≡ suc (11970 + n) = omega arith in
    let day : jiff_year (pos (11970 + n) -ℤ pos 10000) ≡ days_in_year (1970 + n) = ap jiff_year (year_after n) in
    ap jiff_years step ∙ next (11970 + n) ∙ omega (arith, years n, day)

count : (y m d : ℕ) → day_count (pos y) m d ≡ jiff_years (unsigned_abs (pos y +ℤ pos 10000)) + ((jiff_months (pos y) (m - 1) + d) - 1)
unfolding day_count
count y m d = refl

epoch : (y m d : ℕ) → days_from_civil (pos y) m d ≡ (pos (day_count (pos y) m d) -ℤ pos (day_count (pos 1970) 1 1))
unfolding days_from_civil
epoch y m d = refl

no_months : (y : ℕ) → jiff_months (pos y) 0 ≡ 0
unfolding jiff_months
no_months y = refl

pub epoch_day_is : (y m d : ℕ) → 1970 ≤ y → 1 ≤ d → days_from_civil (pos y) m d ≡ pos (day_number y m d)
epoch_day_is y m d h l =
    let at : unsigned_abs (pos y +ℤ pos 10000) ≡ 11970 + (y - 1970) = omega (arith, signed_arith) in
    let here = count y m d in
    let there = count 1970 1 1 in
    let start : unsigned_abs (pos 1970 +ℤ pos 10000) ≡ 11970 = refl in
    let ys = ap jiff_years at ∙ years (y - 1970) in
    epoch y m d ∙ omega (arith, signed_arith, here, there, ys, ap jiff_years start, months y (m - 1), no_months 1970)

pub first_day : days_from_civil (pos 1970) 1 1 ≡ pos 0
first_day = epoch_day_is 1970 1 1 (omega arith) (omega arith)

pub is_day-true : (y m d : ℕ) → 1970 ≤ y → 1 ≤ m → m ≤ 12 → 1 ≤ d → d ≤ days_in_month y m → is_day y m d ≡ true
is_day-true y m d a b c e f = rw (le-leb 1970 y a, le-leb 1 m b, le-leb m 12 c, le-leb 1 d e, le-leb d (days_in_month y m) f) refl

-- whole days are so many seconds
pub seconds_of : (n : ℕ) (e f nanos secs : ℤ) → e ≡ pos n → f ≡ pos 0 → nanos ≡ ((e -ℤ f) *ℤ pos 86_400_000_000_000) → secs ≡ int_div nanos (pos 1_000_000_000) → secs ≡ pos (86400 * n)
seconds_of n e f nanos secs a b c d =
    let whole : nanos ≡ pos (86_400_000_000_000 * n) = omega (arith, signed_arith, a, b, c) in
    d ∙ ap (λ z. int_div z (pos 1_000_000_000)) whole ∙ ap pos (omega arith)
