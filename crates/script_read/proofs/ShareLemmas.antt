-- The words of a line, one after another.
use Rattle.std.specs.Prelude.{◌≡◌, ℕ, zero, suc, ◌+◌, ◌-◌, ◌≤◌, true, false, List, [], ◌∷◌, ◌++◌, length, ◌==◌, nat_lt, option_and_then, Option, Some, None, option_map, refl}
use Rattle.std.specs.Bool.{then_some}
use Rattle.std.proofs.Common.{arith, ap, sym, ◌∙◌, append_assoc, append-nil, lt-ltb}
use Rattle.std.proofs.lemmas.Bool.Decides.{nat_tests}
use Rattle.script_read.specs.Words.{word, after_word, is_blank}
use Rattle.script_read.specs.Values.{text, texts, share_words}

-- the words so far, and those that are left
abbrev pub joined_to : List (List ℕ) → Option (List (List ℕ)) → Option (List (List ℕ))
joined_to words rest = option_map (λ ws. words ++ ws) rest

-- behind the last word nothing is left
pub texts-end : (n : ℕ) (words : List (List ℕ)) (line : List ℕ) → is_blank line ≡ true → joined_to words (texts n line) ≡ Some words
unfolding texts
texts-end zero words line blank = rw blank (ap Some (append-nil words))
texts-end (suc n) words line blank = rw blank (ap Some (append-nil words))

-- a word more than there may be
pub texts-over : (words : List (List ℕ)) (line : List ℕ) → is_blank line ≡ false → joined_to words (texts 0 line) ≡ None
unfolding texts
texts-over words line more = rw more refl

-- a word that isn't text
pub texts-other : (n : ℕ) (words : List (List ℕ)) (line : List ℕ) → 1 ≤ n → is_blank line ≡ false → text (word line) ≡ None → joined_to words (texts n line) ≡ None
unfolding texts
texts-other zero words line some more other = cc
texts-other (suc n) words line some more other = rw (more, other) refl

-- one word more
pub texts-more : (n : ℕ) (words : List (List ℕ)) (line w : List ℕ) → is_blank line ≡ false → text (word line) ≡ Some w
    → joined_to words (texts (suc n) line) ≡ joined_to (words ++ w ∷ []) (texts n (after_word line))
unfolding texts
texts-more n words line w more is = rw (more, is) (go (texts n (after_word line)))
  where
    go : (o : Option (List (List ℕ))) → joined_to words (option_and_then (λ ws. Some (w ∷ ws)) o) ≡ joined_to (words ++ w ∷ []) o
    go (Some ws) = ap Some (sym (append_assoc words (w ∷ []) ws))
    go None = refl

-- the words, where there are some
abbrev some_words : Option (List (List ℕ)) → Option (List (List ℕ))
some_words words = option_and_then (λ ws. then_some (nat_lt 0 (length ws)) ws) words

-- the words of a line are those so far, where nothing is left; and where there are none, it has none
words-of : (line : List ℕ) (words : List (List ℕ)) (rest : List ℕ) (n : ℕ) → is_blank rest ≡ true → joined_to words (texts n rest) ≡ texts 16 line → texts 16 line ≡ Some words
words-of line words rest n blank so_far = sym so_far ∙ texts-end n words rest blank

pub share-some : (line : List ℕ) (words : List (List ℕ)) (rest : List ℕ) (n : ℕ) → is_blank rest ≡ true → joined_to words (texts n rest) ≡ texts 16 line → (length words == 0) ≡ false
    → Some words ≡ share_words line
share-some line words rest n blank so_far some =
    let one : 1 ≤ length words = grind (arith, nat_tests) in
    sym (ap some_words (words-of line words rest n blank so_far) ∙ ap (λ b. then_some b words) (lt-ltb 0 (length words) one))

pub share-none : (line : List ℕ) (words : List (List ℕ)) (rest : List ℕ) (n : ℕ) → is_blank rest ≡ true → joined_to words (texts n rest) ≡ texts 16 line → (length words == 0) ≡ true
    → None ≡ share_words line
share-none line words rest n blank so_far none =
    let zero_is : length words ≡ 0 = grind (arith, nat_tests) in
    sym (ap some_words (words-of line words rest n blank so_far) ∙ ap (λ k. then_some (nat_lt 0 k) words) zero_is)

-- a line whose words are too many, or no text, has none
pub share-not : (line : List ℕ) (o : Option (List (List ℕ))) → o ≡ texts 16 line → o ≡ None → None ≡ share_words line
share-not line o is none = sym (ap some_words (sym is ∙ none))
