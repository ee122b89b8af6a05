-- The counts of a text's words, as its runs come.
use Rattle.std.specs.Prelude.{◌≡◌, ℕ, List, Some, None}
use Rattle.text_words.specs.declared.weigh.Tally.{Tally}
use Rattle.text_words.specs.declared.weigh.Word.{Word}
use Rattle.text_words.specs.declared.weigh.Word.TheVariants.{Known, Fresh, Missing}
use Rattle.text_words.specs.Terms.{term_of, keys_of}
use Rattle.text_words.specs.Words.{counted, number_of, known_of, fresh_of, ArePlaced}

-- what a run is to a vocabulary
abbrev pub IsWordOf : List (List ℕ) → List ℕ → Word → Type 0
IsWordOf words run (Known n) = (word : List ℕ) × (term_of run ≡ Some word) × (number_of word words ≡ Some n)
IsWordOf words run (Fresh word) = (term_of run ≡ Some word) × (number_of word words ≡ None)
IsWordOf words run Missing = term_of run ≡ None

-- a tally counts the terms of some runs
pub record IsTallied (words : List (List ℕ)) (places : List ℕ) (tally : Tally) (done : List (List ℕ)) : Type 0 where
  pub known : tally.known.items ≡ known_of words (counted (keys_of done))
  pub fresh : tally.fresh.entries ≡ fresh_of words (counted (keys_of done))
  pub placed : ArePlaced places tally.known.items
