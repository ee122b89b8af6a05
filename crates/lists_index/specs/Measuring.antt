-- A text by the numbers of its words.
use Rattle.std.specs.Prelude.{◌≡◌, ℕ, ◌+◌, List, [], ◌∷◌, map, slice_get, Option}
use Rattle.std.specs.List.Sorted.{IsPermutation}
use Rattle.text_words.specs.Words.{with_all, counted, known_of, fresh_of}
use Rattle.lists_tails.specs.declared.weight.Weight.{Weight}
use Rattle.lists_tails.specs.Weights.{weight_of}
use Rattle.lists_index.specs.Words.{keys_held, count_of}

-- a text's words for a vocabulary of these words: the counts of those that it knows, by number and in any order, and the others apart
-- from their counts
pub record IsParted (words : List (List ℕ)) (held : Option (List ℕ)) (known : List (ℕ × ℕ)) (fresh : List (List ℕ))
    (counts : List ℕ) : Type 0 where
  pub known_are : IsPermutation (known_of words (counted (keys_held held))) known
  pub fresh_are : fresh ≡ map (λ e. e.0) (fresh_of words (counted (keys_held held)))
  pub counts_are : counts ≡ map (λ e. e.1) (fresh_of words (counted (keys_held held)))

-- counts by the numbers from one on
abbrev pub numbered : ℕ → List ℕ → List (ℕ × ℕ)
numbered n [] = []
numbered n (count ∷ counts) = (n, count) ∷ numbered (n + 1) counts

-- weights as pairs of a number and a count
abbrev pub pairs_of : List Weight → List (ℕ × ℕ)
pairs_of weights = map (λ x. (x.word.number, x.tf)) weights

-- the words, and behind them those of a text that are new
abbrev pub words_with : List (List ℕ) → Option (List ℕ) → List (List ℕ)
words_with words held = with_all words (keys_held held)

-- what a text has for a vocabulary of these words: its fresh words, and how often it has each number
pub record IsMeasured (words : List (List ℕ)) (held : Option (List ℕ)) (fresh : List (List ℕ)) (weights : List Weight) : Type 0 where
  pub fresh_are : with_all words fresh ≡ words_with words held
  pub weights_are : (w : ℕ) → weight_of w weights ≡ count_of (slice_get (words_with words held) w) held
