-- The changes that a loader took.
use Rattle.std.specs.Prelude.{◌≡◌, ℕ, ◌≤◌, ◌<◌, ◌^◌, List, length, All}
use Rattle.lists_versions.specs.declared.change.Change.{Change}
use Rattle.lists_versions.specs.Changes.{changes_of}
use Rattle.lists_tails.specs.declared.document.Turn.{Turn}
use Rattle.lists_tails.specs.Acts.{LetsTurn, frequency_after, open_after, AreInOrder}
use Rattle.lists_tails.specs.Gathered.{acts_of}
use Rattle.lists_tails.specs.Weights.{AreWeights}
use Rattle.lists_index.specs.declared.loader.Loader.{Loader}
use Rattle.lists_index.specs.Words.{words_in, often}
use Rattle.lists_index.specs.Indexing.{AreOpen}

-- what a loader is seen as: the words by number, and the turns that its changes made
pub record Loaded : Type 0 where
  pub words : List (List ℕ)
  pub turns : List Turn

abbrev pub loaded : Loader → Loaded
loaded loader = record { words = loader.vocabulary.words; turns = loader.turns.items }

-- the turns are those of these changes
pub record AreLoaded (value : Loaded) (changes : List (Change (List ℕ))) : Type 0 where
  pub words_are : value.words ≡ words_in changes
  pub frequency_is : (w d t : ℕ) → frequency_after (acts_of value.turns) w d t ≡ often changes w d t
  pub open_are : (d : ℕ) → AreOpen changes d (λ w. open_after (acts_of value.turns) w d)
  pub in_order : AreInOrder (acts_of value.turns)
  pub later : (doc at : ℕ) → All (λ c. c.at.seconds < at) (changes_of (record { 0 = doc }) changes)
      → All (LetsTurn doc at) (acts_of value.turns)
  pub ascending : All (λ x. AreWeights x.weights.items) value.turns
  pub few : length value.turns ≤ 2 ^ 40

-- the loader took these changes
abbrev pub Loads : Loader → List (Change (List ℕ)) → Type 0
Loads loader changes = AreLoaded (loaded loader) changes
