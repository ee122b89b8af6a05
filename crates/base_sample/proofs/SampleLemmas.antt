-- Words and numbers in a row.
use Rattle.std.proofs.Common.{◌≡◌, ℕ, suc, ◌+◌, ◌-◌, ◌*◌, ◌%◌, ◌<◌, ◌≤◌, ◌^◌, List, ◌∷◌, ◌++◌, length, Some, refl, ap, arith, le-leb, lit<}
use Rattle.std.specs.Prelude.{decimal}
use Rattle.std.specs.List.{range_with_len}
use Rattle.std.proofs.lemmas.Str.{IsUtf8-from_ascii, is_utf8-from_IsUtf8}
use Rattle.std.proofs.lemmas.Str.Ascii.{IsAscii-cons}
use Rattle.std.proofs.lemmas.Fmt.{IsAscii-decimal, length-decimal-le}
use Rattle.std.proofs.lemmas.List.{length-append}
use Rattle.std.proofs.lemmas.Nat.{mod_below}
use Rattle.base_commands.specs.Phrases.{phrase_of}
use Rattle.base_sample.specs.Samples.{from_to, word, text}

-- a word is a phrase
pub phrase_of-word : (n : ℕ) → n < 2 ^ 32 → phrase_of (word n) ≡ Some (word n)
phrase_of-word n small =
    let fits : n < 2 ^ 64 = omega arith in
    let below : n < 10 ^ 10 = omega arith in
    let digits : length (decimal n) ≤ 10 = length-decimal-le 10 n (lit< tt) below fits in
    let short : length (word n) ≤ 4096 = omega arith in
    rw (is_utf8-from_IsUtf8 (word n) (IsUtf8-from_ascii (word n) (IsAscii-cons 119 (decimal n) (lit< tt) (IsAscii-decimal n fits))), le-leb (length (word n)) 4096 short) refl

-- a word of a text has at most four bytes
few_digits : (n : ℕ) → length (decimal (n % 200)) ≤ 3
few_digits n = let below : n % 200 < 200 = mod_below n 200 (lit< tt) in length-decimal-le 3 (n % 200) (lit< tt) (omega (arith, below)) (omega (arith, below))

-- so it and a space in front of more take five at most
joined : (n : ℕ) (more : List ℕ) (room : ℕ) → length more ≤ room → length (word (n % 200) ++ 32 ∷ more) ≤ room + 5
joined n more room h = omega (arith, h, few_digits n, length-append (decimal (n % 200)) (32 ∷ more))

-- a text is short
pub length-text : (start number : ℕ) → length (text start number) ≤ 24
length-text start number =
    let fifth : length (word ((start + number * 5) % 200)) ≤ 4 = omega (arith, few_digits (start + number * 5)) in
    joined (start + number * 1) _ 19 (joined (start + number * 2) _ 14 (joined (start + number * 3) _ 9 (joined (start + number * 4) _ 4 fifth)))

-- a row that isn't empty has its first number in front
pub from_to-first : (a b : ℕ) → a ≤ b → from_to a b ≡ a ∷ from_to (a + 1) b
from_to-first a b h = let e : b + 1 - a ≡ suc (b + 1 - (a + 1)) = omega arith in ap (range_with_len a) e
