-- Numbers as the values of options.
use Rattle.std.specs.Prelude.{◌≡◌, ◌≤◌, ℕ, true, List, length}
use Rattle.std.specs.Char.{is_ascii_digit}
use Rattle.std.specs.List.{list_all}
use Rattle.std.specs.Str.Parse.{digits_value}

-- A text is one to nineteen ASCII digits, and this is the number that they write in decimal.
pub record WritesNumber (text : List ℕ) (n : ℕ) : Type 0 where
  pub digits : list_all is_ascii_digit text ≡ true
  pub some : 1 ≤ length text
  pub few : length text ≤ 19
  pub value : n ≡ digits_value 10 text
