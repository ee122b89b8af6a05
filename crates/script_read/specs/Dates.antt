-- Dates as they are written in a script.
use Rattle.std.specs.Prelude.{ℕ, zero, suc, ◌+◌, ◌-◌, ◌*◌, ◌%◌, ◌==◌, Bool, not, ◌&&◌, ◌||◌, nat_le, if◌then◌else◌, List, length, take, drop, slice_index, Option, Some, None}
use Rattle.script_read.specs.Making.{◌>>=◌}
use Rattle.script_read.specs.Numbers.{number}

-- every fourth year, but of the centuries only every fourth
abbrev pub is_leap_year : ℕ → Bool
is_leap_year y = (y % 4 == 0) && (not (y % 100 == 0) || (y % 400 == 0))

abbrev pub days_in_year : ℕ → ℕ
days_in_year y = if is_leap_year y then 366 else 365

-- thirty days have September, April, June and November
abbrev pub days_in_month : ℕ → ℕ → ℕ
days_in_month y m = if m == 2 then (if is_leap_year y then 29 else 28)
    else (if (m == 4) || (m == 6) || (m == 9) || (m == 11) then 30 else 31)

-- the days of the first n years from 1970 on
abbrev pub days_of_years : ℕ → ℕ
days_of_years zero = 0
days_of_years (suc n) = days_of_years n + days_in_year (1970 + n)

-- the days of the first n months of a year
abbrev pub days_of_months : ℕ → ℕ → ℕ
days_of_months y zero = 0
days_of_months y (suc n) = days_of_months y n + days_in_month y (suc n)

-- the number of a day from 1970 on, where 1 January 1970 is day 0
abbrev pub day_number : ℕ → ℕ → ℕ → ℕ
day_number y m d = days_of_years (y - 1970) + days_of_months y (m - 1) + (d - 1)

-- the calendar has this day, and it isn't before 1970
abbrev pub is_day : ℕ → ℕ → ℕ → Bool
is_day y m d = nat_le 1970 y && nat_le 1 m && nat_le m 12 && nat_le 1 d && nat_le d (days_in_month y m)

-- the second at which a day begins, where the word is a day of the calendar from 1970 on
abbrev pub day_seconds : ℕ → ℕ → ℕ → Option ℕ
day_seconds y m d = if is_day y m d then Some (86400 * day_number y m d) else None

-- a date is four digits, a hyphen, two digits, a hyphen, two digits
abbrev pub is_dated : List ℕ → Bool
is_dated word = (length word == 10) && ((slice_index word 4 == 45) && (slice_index word 7 == 45))

-- the second at which the day of a date begins
abbrev pub date : List ℕ → Option ℕ
date word = if is_dated word
    then (do y ← number 10000 (take 4 word); m ← number 100 (take 2 (drop 5 word)); d ← number 100 (drop 8 word); day_seconds y m d)
    else None
