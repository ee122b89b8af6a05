-- The words that changes bring.
use Rattle.std.specs.Prelude.{◌≡◌, ℕ, List, ◌++◌}
use Rattle.lists_versions.specs.declared.change.Change.{Change}
use Rattle.lists_index.specs.declared.new_words.NewWords.{NewWords}
use Rattle.lists_index.specs.Words.{words_in}

-- these are the words that the coming changes bring behind those
abbrev pub Brings : NewWords → List (Change (List ℕ)) → List (Change (List ℕ)) → Type 0
Brings new changes coming = words_in (changes ++ coming) ≡ words_in changes ++ new.words.words
