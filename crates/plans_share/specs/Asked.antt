-- The pairs of a word and a time that were asked for, and how often a word was asked for in a span.
use Rattle.std.specs.Prelude.{ℕ, ◌&&◌, if◌then◌else◌, nat_le, nat_lt, bytes_eq, List, [], ◌∷◌, ◌++◌, length, map, filter, count_by}
use Rattle.base_types.specs.declared.time.Time.{Time}
use Rattle.plans_share.specs.declared.asked.Asking.{Asking}

-- How many of the pairs are of the word and have a time in [a, b).
abbrev pub asked_in : List Asking → List ℕ → ℕ → ℕ → ℕ
asked_in pairs word a b = count_by (λ p. bytes_eq p.word word && (nat_le a p.at.seconds && nat_lt p.at.seconds b)) pairs

-- The pair of a time and a word.
abbrev pub asking : Time → List ℕ → Asking
asking at word = record { word = word; at = at }

-- The pairs with one more, of which the first 2^20 are kept.
abbrev pub noted : List Asking → List ℕ → Time → List Asking
noted pairs word at = if nat_lt (length pairs) 1048576 then pairs ++ asking at word ∷ [] else pairs

-- The pairs with a time and each of some words, one after another.
abbrev pub noted_all : List Asking → List (List ℕ) → Time → List Asking
noted_all pairs [] at = pairs
noted_all pairs (word ∷ words) at = noted_all (noted pairs word at) words at

-- the times of a word's pairs, in seconds
abbrev pub seconds_of : List ℕ → List Asking → List ℕ
seconds_of word pairs = map (λ p. p.at.seconds) (filter (λ p. bytes_eq p.word word) pairs)

-- how many times are in [a, b)
abbrev pub count_in : ℕ → ℕ → List ℕ → ℕ
count_in a b times = count_by (λ s. nat_le a s && nat_lt s b) times
