-- The index of some changes, and a change on its way into it.
use Rattle.std.specs.Prelude.{◌≡◌, ℕ, ◌+◌, ◌≤◌, ◌<◌, ◌^◌, List, length, Option}
use Rattle.base_types.specs.declared.ids.DocId.{DocId}
use Rattle.lists_versions.specs.declared.change.Change.{Change}
use Rattle.text_words.specs.Words.{with_all}
use Rattle.lists_tails.specs.States.{TailState}
use Rattle.lists_tails.specs.Tails.{tail_of, HaveRoom}
use Rattle.lists_tails.specs.Weights.{weight_of}
use Rattle.lists_tails.specs.declared.weight.Weight.{Weight}
use Rattle.lists_index.specs.declared.index.Index.{Index}
use Rattle.lists_index.specs.declared.prepared.Prepared.{Prepared}
use Rattle.lists_index.specs.Newest.{newest_of, room_of}
use Rattle.lists_index.specs.Indexing.{IndexValue, AreIndexed}
use Rattle.lists_index.specs.Measuring.{IsMeasured}

-- an index as plain data: the words by number, what is held of the list of each, how many turns there were, the weights of the
-- documents' newest versions, and how many more words and documents fit in without memory
pub record IndexState : Type 0 where
  pub words : List (List ℕ)
  pub tails : List TailState
  pub turns : ℕ
  pub newest : List (DocId × List Weight)
  pub more_words : ℕ
  pub more_documents : ℕ

abbrev pub state_of : Index → IndexState
state_of index = record {
  words = index.vocabulary.words;
  tails = index.tails.tails;
  turns = index.tails.turns;
  newest = index.newest.by_document.entries;
  more_words = index.vocabulary.spare;
  more_documents = room_of index.newest;
}

-- what its answers depend on
abbrev pub seen : IndexState → IndexValue
seen index = record { words = index.words; tails = tail_of index.tails; newest = λ d w. weight_of w (newest_of index.newest d) }

-- it is the index of these changes
abbrev pub Indexes : IndexState → List (Change (List ℕ)) → Type 0
Indexes index changes = AreIndexed (seen index) changes

-- there is room for the change: it may be committed, without memory
pub record HasRoom (index : IndexState) (change : Prepared) : Type 0 where
  pub numbered : length (with_all index.words change.fresh.items) ≤ length index.words + index.more_words
  pub room_for_new : HaveRoom change.weights index.tails
  pub newest_room : 1 ≤ index.more_documents
  pub few : index.turns < 2 ^ 40

-- it was prepared for this document and this text, or for its deletion, where these are the words
pub record IsPreparedBehind (words : List (List ℕ)) (doc : DocId) (held : Option (List ℕ)) (change : Prepared) : Type 0 where
  pub doc_is : change.doc ≡ doc
  pub measured : IsMeasured words held change.fresh.items change.weights

-- and where they are an index's
abbrev pub IsPreparedFor : IndexState → DocId → Option (List ℕ) → Prepared → Type 0
IsPreparedFor index doc held change = IsPreparedBehind index.words doc held change
