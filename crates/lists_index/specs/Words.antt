-- The words of texts by their numbers, and how often documents have them.
use Rattle.std.specs.Prelude.{◌≡◌, ℕ, ◌^◌, List, [], length, Option, Some, None, unwrap_or, option_map, slice_get}
use Rattle.std.specs.List.{flat_map}
use Rattle.base_types.specs.declared.posting.Posting.{Posting}
use Rattle.lists_versions.specs.declared.change.Change.{Change}
use Rattle.lists_versions.specs.Changes.{held_at}
use Rattle.lists_postings.specs.Lists.{sublist}
use Rattle.lists_postings.specs.ListsOf.{IsListOf}
use Rattle.text_words.specs.Terms.{keys, occurrences}
use Rattle.text_words.specs.Words.{distinct}

-- the keys of a text that is held, each as often as it occurs; a deletion holds none
abbrev pub keys_held : Option (List ℕ) → List (List ℕ)
keys_held None = []
keys_held (Some text) = keys text

-- the keys of a change's text
abbrev pub keys_in : Change (List ℕ) → List (List ℕ)
keys_in c = keys_held c.held

-- the distinct words of the changes' texts, in the order of first occurrence, which is that of their numbers
abbrev pub words_in : List (Change (List ℕ)) → List (List ℕ)
words_in changes = distinct (flat_map keys_in changes)

-- how often a word occurs in a text that is held; 0 where none is
abbrev pub count_held : List ℕ → Option (List ℕ) → ℕ
count_held word held = unwrap_or (option_map (occurrences word) held) 0

-- how often a document's text has the word at a time; 0 where the document isn't alive then
abbrev pub frequency_in : List (Change (List ℕ)) → List ℕ → ℕ → ℕ → ℕ
frequency_in changes word d t = count_held word (held_at (record { 0 = d }) t changes)

-- the list of a word: that of its frequency
abbrev pub IsWordList : List (Change (List ℕ)) → List ℕ → List Posting → Type 0
IsWordList changes word list = IsListOf (frequency_in changes word) 0 (2 ^ 40) list

-- what the list of a word has in [a, b), and the length of that list
abbrev pub IsWordPart : List (Change (List ℕ)) → List ℕ → ℕ → ℕ → List Posting → ℕ → Type 0
IsWordPart changes word a b rows whole = (list : List Posting) × IsWordList changes word list × (rows ≡ sublist a b list)
    × (whole ≡ length list)

-- how often a text has the word of a number, if there is one
abbrev pub count_of : Option (List ℕ) → Option (List ℕ) → ℕ
count_of None held = 0
count_of (Some word) held = count_held word held

abbrev pub often : List (Change (List ℕ)) → ℕ → ℕ → ℕ → ℕ
often changes w d t = count_of (slice_get (words_in changes) w) (held_at (record { 0 = d }) t changes)
