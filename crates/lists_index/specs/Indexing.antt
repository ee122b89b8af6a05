-- What an index is seen as, and when it is that of some changes.
use Rattle.std.specs.Prelude.{◌≡◌, ℕ, ◌≤◌, ◌<◌, List, All}
use Rattle.base_types.specs.declared.posting.Posting.{Posting}
use Rattle.lists_versions.specs.declared.change.Change.{Change}
use Rattle.lists_versions.specs.Changes.{changes_of}
use Rattle.lists_tails.specs.Turns.{AreTails}
use Rattle.lists_index.specs.Words.{words_in, often}

-- what an index is seen as: the words by number, the list of each number, and how often the newest version of a
-- document (first) has each number
pub record IndexValue : Type 0 where
  pub words : List (List ℕ)
  pub tails : ℕ → List Posting
  pub newest : ℕ → ℕ → ℕ

-- the weights of a document are those of its newest version: from its last change on it has each word so often
abbrev pub AreOpen : List (Change (List ℕ)) → ℕ → (ℕ → ℕ) → Type 0
AreOpen changes d weights = (w t : ℕ) → All (λ c. c.at.seconds ≤ t) (changes_of (record { 0 = d }) changes)
    → weights w ≡ often changes w d t

-- an index of these changes, with the list of each word
pub record AreIndexed (value : IndexValue) (changes : List (Change (List ℕ))) : Type 0 where
  pub words_are : value.words ≡ words_in changes
  pub tails_are : AreTails (often changes) value.tails
  pub open_are : (d : ℕ) → AreOpen changes d (value.newest d)

-- the change comes later than its document's earlier ones
abbrev pub ComesLater : {A : Type 0} → List (Change A) → Change A → Type 0
ComesLater changes c = All (λ d. d.at.seconds < c.at.seconds) (changes_of c.doc changes)
