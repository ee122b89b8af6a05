-- Lists of words in which each word stands once.
use Rattle.std.specs.Prelude.{ℕ, List, [], ◌∷◌, ◌++◌, Bool, ◌+◌, Option, option_map, unwrap_or, if◌then◌else◌, map, filter, filter_map, not, fold, position, slice_index, slice_index_or, nat_eq, length, ◌≡◌, ◌<◌}
use Rattle.std.specs.Str.{bytes_eq}
use Rattle.std.specs.List.{list_any}
use Rattle.std.specs.Map.{lookup}
use Rattle.text_words.specs.Terms.{times}

-- the words and a key behind them, where it is none of them
abbrev pub entered : List (List ℕ) → List ℕ → List (List ℕ)
entered words word = if list_any (bytes_eq word) words then words else words ++ word ∷ []

-- the words, and behind them the keys that are new, each once, in the order of first occurrence
abbrev pub with_all : List (List ℕ) → List (List ℕ) → List (List ℕ)
with_all words found = fold entered words found

-- the distinct keys, in the order of first occurrence
abbrev pub distinct : List (List ℕ) → List (List ℕ)
distinct found = with_all [] found

-- each distinct key with how often it occurs, in the order of first occurrence
abbrev pub counted : List (List ℕ) → List (List ℕ × ℕ)
counted found = map (λ word. (word, times word found)) (distinct found)

-- the counts of things after one more of them
abbrev pub bump : {X : Type 0} → (X → X → Bool) → List (X × ℕ) → X → List (X × ℕ)
bump eq [] x = (x, 1) ∷ []
bump eq (e ∷ es) x = if eq x e.0 then (e.0, e.1 + 1) ∷ es else e ∷ bump eq es x

-- the place of a word among words, from 0, if it is one of them
abbrev pub number_of : List ℕ → List (List ℕ) → Option ℕ
number_of word words = position (bytes_eq word) words

-- of counts by word, those of the words that have a number, by their numbers
abbrev pub known_of : List (List ℕ) → List (List ℕ × ℕ) → List (ℕ × ℕ)
known_of words counts = filter_map (λ p. option_map (λ n. (n, p.1)) (number_of p.0 words)) counts

-- and those of the words that have none
abbrev pub fresh_of : List (List ℕ) → List (List ℕ × ℕ) → List (List ℕ × ℕ)
fresh_of words counts = filter (λ p. not (list_any (bytes_eq p.0) words)) counts

-- these by the numbers that their words get in order, the first one given
abbrev pub numbered_from : ℕ → List (List ℕ × ℕ) → List (ℕ × ℕ)
numbered_from n [] = []
numbered_from n (e ∷ es) = (n, e.1) ∷ numbered_from (n + 1) es

-- all counts by number, when the words that have no number got the next ones
abbrev pub weights_of : List (List ℕ) → List (List ℕ × ℕ) → List (ℕ × ℕ)
weights_of words counts = known_of words counts ++ numbered_from (length words) (fresh_of words counts)

-- the count of a number, or 0
abbrev pub weight_at : ℕ → List (ℕ × ℕ) → ℕ
weight_at n weights = unwrap_or (lookup (λ m. nat_eq m n) weights) 0

-- at the number of each word that was counted stands its place among the counts
abbrev pub ArePlaced : List ℕ → List (ℕ × ℕ) → Type 0
ArePlaced places known = (p : ℕ) → p < length known → slice_index places (slice_index_or known p (0, 0)).0 ≡ p

-- what a vocabulary is seen as: its words by number, and how many more it takes without memory
pub record Numbered : Type 0 where
  pub words : List (List ℕ)
  pub spare : ℕ
