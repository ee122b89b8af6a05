use Rattle.std.proofs.Common.{arith, rules, ap, ◌∙◌, ◌≡◌, ◌≤◌, ◌*◌, ℕ, true, ℤ, pos, Some}
use Rattle.std.proofs.lemmas.Int.{ints}
use Rattle.jiff.specs.Words.{epoch_day}
use Rattle.jiff.specs.Words.{days_in_month as jiff_month}
use Rattle.jiff_core.specs.Calendar.{days_from_civil}
use Rattle.script_read.specs.Dates.{day_number, days_in_month, is_day}
use Rattle.script_read.proofs.Calendar.{epoch_day_is, first_day, is_day-true, seconds_of}
use Rattle.script_read.proofs.dates.day_seconds.Goals as goal

-- what the call knows of its day
record Known (y m d : ℕ) (secs : ℤ) : Type 0 where
  is : is_day y m d ≡ true
  seconds : secs ≡ pos (86400 * day_number y m d)

known : (c : goal.After-as_secs) → Known c.args.year c.args.month c.args.day c.as_secs.result
known c =
    let y : ℕ = c.args.year in
    let m : ℕ = c.args.month in
    let d : ℕ = c.args.day in
    let day = c.in-Ok.day in
    let value = c.in-Ok.ensures.value in
    let ey : day.year ≡ pos y = value.0 ∙ omega (arith, ints, c.requires.year) in
    let em : day.month ≡ m = omega (arith, ints, value.1, c.requires.month) in
    let ed : day.day ≡ d = omega (arith, ints, value.2, c.requires.day) in
    let low : 1970 ≤ y = omega (arith, c.if-year-lt1970.false) in
    let one : 1 ≤ d = omega (arith, day.day_in, ed) in
    let here : epoch_day day ≡ pos (day_number y m d) =
    ap (λ z. days_from_civil z day.month day.day) ey ∙ ap (λ k. days_from_civil (pos y) k day.day) em ∙ ap (λ k. days_from_civil (pos y) m k) ed ∙ epoch_day_is y m d low one in
    let first = c.date.result in
    let fm : first.month ≡ 1 = omega (arith, ints, c.date.ensures.1) in
    let fd : first.day ≡ 1 = omega (arith, ints, c.date.ensures.2) in
    let there : epoch_day first ≡ pos 0 =
    ap (λ z. days_from_civil z first.month first.day) c.date.ensures.0 ∙ ap (λ k. days_from_civil (pos 1970) k first.day) fm ∙ ap (λ k. days_from_civil (pos 1970) 1 k) fd ∙ first_day in
    let last : jiff_month day.year day.month ≡ days_in_month y m = ap (λ z. jiff_month z day.month) ey ∙ ap (λ k. jiff_month (pos y) k) em in
    record {
      is = is_day-true y m d low (omega (arith, day.month_in, em)) (omega (arith, day.month_in, em)) one (omega (arith, day.day_in, ed, last));
      seconds = seconds_of (day_number y m d) (epoch_day day) (epoch_day first) _ c.as_secs.result here there c.duration_since.ensures c.as_secs.ensures;
    }

pub overflow_cast-result : goal.overflow_cast-result
overflow_cast-result c = let k = known c in (search (rules, ints, k.seconds), omega (arith, ints, k.seconds))

pub returns-in-Ok : goal.returns-in-Ok
returns-in-Ok c =
    let k = known c in
    rw k.is (ap Some (omega (arith, ints, k.seconds)))
