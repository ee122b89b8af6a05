-- What the words of a text are.
use Rattle.std.specs.Prelude.{ℕ, List, [], ◌∷◌, ◌++◌, Bool, not, ◌&&◌, ◌||◌, nat_le, nat_lt, Option, Some, None, if◌then◌else◌, length, map, filter, count_by, chars, encode_utf8_all}
use Rattle.std.specs.Str.{bytes_eq}
use Rattle.unicode.specs.GeneralCategory.{general_category}
use Rattle.unicode.specs.GeneralCategoryGroup.{in_group}
use Rattle.ucd_category.specs.declared.GeneralCategoryGroup.TheVariants.{Letter, Mark, Number}
use Rattle.caseless.specs.Caseless.{canonical_key}

-- a letter, a mark or a number, by the character's general category
abbrev pub is_term : ℕ → Bool
is_term c = in_group Letter (general_category c) || in_group Mark (general_category c) || in_group Number (general_category c)

-- an ASCII letter or digit
abbrev pub is_ascii_term : ℕ → Bool
is_ascii_term c = nat_lt c 128 && is_term c

-- any other character of ASCII
abbrev pub is_ascii_gap : ℕ → Bool
is_ascii_gap c = nat_lt c 128 && not (is_term c)

-- a stretch of characters as a run; none where it is empty
abbrev pub closed : List ℕ → List (List ℕ)
closed [] = []
closed (c ∷ run) = (c ∷ run) ∷ []

-- the runs of characters before which a run has begun, or is empty
abbrev pub runs_from : List ℕ → List ℕ → List (List ℕ)
runs_from run [] = closed run
runs_from run (c ∷ cs) = if is_term c then runs_from (run ++ c ∷ []) cs else closed run ++ runs_from [] cs

-- the maximal stretches of letters, marks and numbers among characters, in order
abbrev pub runs : List ℕ → List (List ℕ)
runs cs = runs_from [] cs

-- a run's key in bytes: NFD(toCasefold(NFD(run))), the key of Unicode's canonical caseless matching
abbrev pub key : List ℕ → List ℕ
key run = encode_utf8_all (canonical_key run)

-- a key of a term has 1 to 255 bytes
abbrev pub is_key : List ℕ → Bool
is_key bytes = nat_le 1 (length bytes) && nat_le (length bytes) 255

-- the keys of those runs that are terms, in order
abbrev pub keys_of : List (List ℕ) → List (List ℕ)
keys_of found = filter is_key (map key found)

-- the keys of a text's terms, in order, each as often as it occurs
abbrev pub keys : List ℕ → List (List ℕ)
keys text = keys_of (runs (chars text))

-- how often a key occurs among keys
abbrev pub times : List ℕ → List (List ℕ) → ℕ
times word found = count_by (bytes_eq word) found

-- the frequency of a word in a text: how many of its runs have that key
abbrev pub occurrences : List ℕ → List ℕ → ℕ
occurrences word text = times word (keys text)

-- the key of a run that is a term
abbrev pub term_of : List ℕ → Option (List ℕ)
term_of run = if is_key (key run) then Some (key run) else None

-- the key of the only run, where there is exactly one and it is a term
abbrev pub only_term : List (List ℕ) → Option (List ℕ)
only_term [] = None
only_term (run ∷ []) = term_of run
only_term (run ∷ other ∷ found) = None

-- the key of the text's only run
abbrev pub one_term : List ℕ → Option (List ℕ)
one_term text = only_term (runs (chars text))
