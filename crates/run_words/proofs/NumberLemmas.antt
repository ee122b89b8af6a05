-- What the parser of numbers answers of a text that writes one.
use Rattle.std.proofs.Common.{◌≡◌, ◌∙◌, ap, ◌^◌, ◌<◌, ℕ, List, Option, Some, None, IfNone, Result, Ok, true, arith, rules}
use Rattle.std.specs.Result.{result_ok}
use Rattle.std.specs.Char.{is_ascii_digit}
use Rattle.std.specs.List.{list_all}
use Rattle.std.specs.Str.Parse.{ParsesUnsigned, digits_value}
use Rattle.std.proofs.lemmas.Str.Parse.{IsDigitsTest, IsNumeralModel, numerals_by_value, digits_value_short, parse_gives}
use Rattle.run_words.specs.Numbers.{WritesNumber}

digits_test : IsDigitsTest (λ ds. list_all is_ascii_digit ds ≡ true)
digits_test = search rules

numerals : IsNumeralModel (λ ds. list_all is_ascii_digit ds ≡ true) (digits_value 10)
numerals = numerals_by_value _ digits_test

-- the number is below 10^19
pub below : (text : List ℕ) (n : ℕ) → WritesNumber text n → n < 10 ^ 19
below text n w = omega (arith, digits_value_short numerals text 19 w.digits w.few, w.value)

-- and is read
pub reads : {E : Type 0} (text : List ℕ) (n : ℕ) (r : Result ℕ E) → ParsesUnsigned 64 10 text r → WritesNumber text n → r ≡ Ok (digits_value 10 text)
reads text n r h w = parse_gives numerals 64 text r h w.digits (omega (arith, w.some)) (omega (arith, digits_value_short numerals text 19 w.digits w.few))

pub not_written : {E : Type 0} (text : List ℕ) (r : Result ℕ E) (o : Option ℕ) → o ≡ result_ok r → ParsesUnsigned 64 10 text r → IfNone o ((n : ℕ) → WritesNumber text n → ⊥)
not_written text r (Some x) e h = tt
not_written text r None e h = λ n w. let bad : None ≡ Some (digits_value 10 text) = e ∙ ap result_ok (reads text n r h w) in cc
