-- Batches that are to come next: their changes with the places of the texts, and what an index takes of them.
use Rattle.std.specs.Prelude.{◌≡◌, ℕ, ◌+◌, List, [], ◌∷◌, ◌++◌, map, All, None, Some, Result, Ok, Err}
use Rattle.std.specs.List.{flat_map}
use Rattle.base_commands.specs.declared.batch.BatchItem.{BatchItem}
use Rattle.base_types.specs.declared.text_place.TextPlace.{TextPlace}
use Rattle.journal_gates.specs.Records.{first_gate}
use Rattle.lists_versions.specs.declared.change.Change.{Change}
use Rattle.lists_versions.specs.Changes.{mapped}
use Rattle.lists_versions.specs.Coming.{AreCounted}
use Rattle.lists_versions.specs.Refusals.{change_refusal}
use Rattle.lists_versions.specs.Tests.{first_of}
use Rattle.lists_index.specs.Indexes.{IndexState, Indexes, IsPreparedBehind}
use Rattle.lists_index.specs.NewWords.{Brings}
use Rattle.lists_index.specs.Words.{words_in}
use Rattle.journal_entries.specs.Acts.{IsAct, acts_bytes, batch_front}
use Rattle.journal_entries.specs.Spelling.{spelling}
use Rattle.journal_entries.specs.declared.act.Act.{Act}
use Rattle.journal_entries.specs.declared.entry.Entry.TheVariants.{Batch}
use Rattle.model_archive.specs.Histories.{History, change_by, changes, end_of, singles}
use Rattle.model_archive.specs.Legal.{EachAllowed, IsLegalEntry}
use Rattle.model_archive.specs.Steps.{act_of, batch_cause, for_all, full_journal}
use Rattle.archive_entries.specs.Places.{ArePlaced, acts_offset, pair_of, placed_acts}
use Rattle.archive_entries.specs.declared.batching.Gathered.{Gathered}
use Rattle.archive_entries.specs.declared.batching.NextWords.{NextWords}
use Rattle.archive_entries.specs.declared.batching.PreparedBatch.{PreparedBatch}
use Rattle.archive_entries.specs.declared.error.BatchDeclined.{BatchDeclined}
use Rattle.archive_entries.specs.declared.error.BatchDeclined.TheVariants as declines

-- where the body of the next entry begins behind the journal's end: behind the length of the record, as its gate is the last byte
abbrev pub body_offset : ℕ
body_offset = 4

-- each of these changes may come behind others and behind those before it
abbrev pub EachMayFollow : List (Change TextPlace) → List (Change TextPlace) → Type 0
EachMayFollow before [] = Unit {0}
EachMayFollow before (change ∷ changes) = (change_refusal change before ≡ None) × EachMayFollow (before ++ change ∷ []) changes

-- these are what an index takes of changes, each prepared behind the changes before it
abbrev pub AreReady : List (Change (List ℕ)) → List (Change (List ℕ)) → List NextWords → Type 0
AreReady before [] [] = Unit {0}
AreReady before (change ∷ changes) (next ∷ ready) = (next.at ≡ change.at)
    × IsPreparedBehind (words_in before) change.doc change.held next.words
    × AreReady (before ++ change ∷ []) changes ready
AreReady before changes ready = ⊥

-- ---- acts that are gathered one after another

-- these are the changes of a history with the places of the texts, its index, and where its journal ends
pub record AreOf (history : History) (places : List (Change TextPlace)) (index : IndexState) (end : ℕ) : Type 0 where
  pub placed : ArePlaced first_gate history places
  pub indexed : Indexes index (changes history)
  pub end_is : end ≡ end_of history

-- The acts of a batch of so many are gathered behind changes whose journal ends at this place: their changes may follow, and their places and their
-- spelling are there.
pub record AreGathered (before : List (Change TextPlace)) (end count : ℕ) (batch : List Act) (gathered : Gathered) : Type 0 where
  pub counted : AreCounted before gathered.coming
  pub may : EachMayFollow before gathered.coming.changes.items
  pub placed : map (mapped pair_of) gathered.coming.changes.items ≡ placed_acts (end + (body_offset + acts_offset)) batch
  pub ranges : All IsAct batch
  pub spelled : gathered.body.items ≡ batch_front count ++ acts_bytes batch

-- nothing refuses them as entries of their own behind a history, these are the words that they bring, and an index may take them in
pub record AreAllowed (history : History) (batch : List Act) (gathered : Gathered) : Type 0 where
  pub allowed : EachAllowed history (singles batch)
  pub brings : Brings gathered.words (changes history) (map change_by batch)
  pub ready : AreReady (changes history) (map change_by batch) gathered.ready.items

-- ---- a batch that is prepared

-- A batch may come next after a history, as one entry with this spelling, whose gate is the journal's last byte; these are its changes with
-- the places of their texts, and what the history's index takes of them.
pub record IsNextBatch (history : History) (batch : List Act) (prepared : PreparedBatch) : Type 0 where
  pub legal : IsLegalEntry history (Batch batch)
  pub ready : AreReady (changes history) (map change_by batch) prepared.words.items
  pub placed : map (mapped pair_of) prepared.changes.items ≡ placed_acts (end_of history + (body_offset + acts_offset)) batch
  pub spelled : prepared.body.items ≡ spelling (Batch batch)

-- A batch of these items is prepared that may come next after a history, but for the journal's room; or this is why it may not.
abbrev pub IsPreparedBatch : History → List BatchItem → Result PreparedBatch BatchDeclined → Type 0
IsPreparedBatch history items (Ok p) = IsNextBatch history (flat_map act_of items) p
    × (batch_cause history items ≡ first_of (for_all (full_journal history (Batch (flat_map act_of items))) ∷ []))
IsPreparedBatch history items (Err (declines.Refused why index)) = batch_cause history items ≡ Some (record { why = why; index = index })
IsPreparedBatch history items (Err declines.Memory) = Unit {0}
