-- Numbers as they are written in a script.
use Rattle.std.specs.Prelude.{ℕ, ◌+◌, ◌-◌, ◌*◌, Bool, ◌&&◌, nat_lt, if◌then◌else◌, List, length, fold, Option, Some, None}
use Rattle.std.specs.List.{list_all}
use Rattle.std.specs.Char.{is_ascii_digit}

-- The value of decimal digits, the first one weighing most.
abbrev pub value_of : List ℕ → ℕ
value_of digits = fold (λ n d. 10 * n + (d - 48)) 0 digits

-- A word is one or more ASCII digits.
abbrev pub are_digits : List ℕ → Bool
are_digits word = nat_lt 0 (length word) && list_all is_ascii_digit word

-- The number that a word spells, where it spells one below a limit.
abbrev pub number : ℕ → List ℕ → Option ℕ
number limit word = if are_digits word && nat_lt (value_of word) limit then Some (value_of word) else None
