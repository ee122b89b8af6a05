-- For callers that make room once and then number key after key: what each step needs and leaves.
use Rattle.std.proofs.Common.{◌≡◌, ℕ, ◌+◌, ◌-◌, ◌≤◌, ◌⊎◌, inl, inr, Bool, true, false, List, [], ◌∷◌, ◌++◌, length, Option, Some, None, IsSome, is_some, refl, ap, ◌∙◌, arith, length-append, if◌then◌else◌}
use Rattle.std.specs.List.{list_any}
use Rattle.std.specs.Str.{bytes_eq}
use Rattle.text_words.specs.Words.{entered, with_all, number_of}
use Rattle.text_words.proofs.WordLemmas.{is_some-number_of, with_all-front}

some_from : (o : Option ℕ) → is_some o ≡ true → IsSome o
some_from None e = cc
some_from (Some n) e = search

length-with_all : (words found : List (List ℕ)) → length words ≤ length (with_all words found)
length-with_all words found = let h = with_all-front words found in omega (arith, ap length h.1, length-append words h.0)

-- there is room for the next key
pub may_number : (words rest : List (List ℕ)) (key : List ℕ) (spare : ℕ) → length (with_all words (key ∷ rest)) ≤ length words + spare → IsSome (number_of key words) ⊎ (1 ≤ spare)
may_number words rest key spare room = by (list_any (bytes_eq key) words) refl
  where
    by : (b : Bool) → list_any (bytes_eq key) words ≡ b → IsSome (number_of key words) ⊎ (1 ≤ spare)
    by true e = inl (some_from _ (is_some-number_of key words ∙ e))
    by false e =
        let new : entered words key ≡ words ++ key ∷ [] = ap (λ b. if b then words else words ++ key ∷ []) e in
        inr (omega (arith, room, length-with_all (entered words key) rest, ap length new, length-append words (key ∷ [])))

-- and behind it for the others
pub after_number : (words rest : List (List ℕ)) (key : List ℕ) (spare : ℕ) → length (with_all words (key ∷ rest)) ≤ length words + spare
    → length (with_all (entered words key) rest) ≤ length (entered words key) + (if is_some (number_of key words) then spare else spare - 1)
after_number words rest key spare room = by (list_any (bytes_eq key) words) refl (may_number words rest key spare room)
  where
    by : (b : Bool) → list_any (bytes_eq key) words ≡ b → IsSome (number_of key words) ⊎ (1 ≤ spare) → length (with_all (entered words key) rest) ≤ length (entered words key) + (if is_some (number_of key words) then spare else spare - 1)
    by true e may =
        let old : entered words key ≡ words = ap (λ b. if b then words else words ++ key ∷ []) e in
        let kept : (if is_some (number_of key words) then spare else spare - 1) ≡ spare = ap (λ b. if b then spare else spare - 1) (is_some-number_of key words ∙ e) in
        omega (arith, room, ap length old, kept)
    by false e may =
        let new : entered words key ≡ words ++ key ∷ [] = ap (λ b. if b then words else words ++ key ∷ []) e in
        let less : (if is_some (number_of key words) then spare else spare - 1) ≡ spare - 1 = ap (λ b. if b then spare else spare - 1) (is_some-number_of key words ∙ e) in
        omega (arith, room, ap length new, length-append words (key ∷ []), less)
