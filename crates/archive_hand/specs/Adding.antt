-- How an entry is added to an open archive, and when a change is given up.
use Rattle.std.specs.Prelude.{◌≡◌, ◌⊎◌, ℕ, ◌+◌, ◌≤◌, List, [], ◌∷◌, ◌++◌, length, Option, Result, Err, IsOk, false}
use Rattle.journal_gates.specs.Records.{gate_bytes}
use Rattle.base_types.specs.declared.ids.DocId.{DocId}
use Rattle.base_types.specs.declared.text_place.TextPlace.{TextPlace}
use Rattle.lists_versions.specs.declared.change.Change.{Change}
use Rattle.model_archive.specs.declared.refusal.Refusal.{Refusal}
use Rattle.archive_entries.specs.Entries.{IsHeld}
use Rattle.archive_entries.specs.declared.error.Declined.{Declined}
use Rattle.archive_entries.specs.declared.error.Declined.TheVariants as declines
use Rattle.base_types.specs.declared.extent.Extent.{Extent}
use Rattle.pages_area.specs.Taken.{HasTaken}
use Rattle.archive_hand.specs.States.{ArchiveState}
use Rattle.archive_plans.specs.Shelves.{ShelfState}
use Rattle.archive_hand.specs.declared.error.ChangeError.{ChangeError}
use Rattle.archive_hand.specs.declared.error.ChangeError.TheVariants as changes
use Rattle.lists_index.specs.Indexing.{ComesLater}
use Rattle.lists_index.specs.Indexes.{Indexes, IsPreparedFor, seen}
use Rattle.lists_index.specs.declared.prepared.Prepared.{Prepared as Words}

-- an archive with one entry more, which makes this change and has this spelling; its words were prepared
pub record IsMore (old new : ArchiveState) (change : Change ℕ) (body : List ℕ) (words : Words) : Type 0 where
  pub end_is : new.end ≡ old.end + gate_bytes + length body
  pub length_is : new.length ≡ old.length + 1
  pub held : Option TextPlace
  pub held_is : IsHeld (old.end + 17) change.held held
  pub changes_are : new.changes ≡ old.changes ++ record { doc = change.doc; at = change.at; held = held } ∷ []
  pub shelf_is : new.shelf ≡ old.shelf
  pub marked_is : new.marked ≡ old.marked
  pub asked_is : new.asked ≡ old.asked
  pub job_is : new.job ≡ old.job
  pub indexed : (texts : List (Change (List ℕ))) (doc : DocId) (text : Option (List ℕ)) → Indexes old.index texts
      → IsPreparedFor old.index doc text words
      → ComesLater texts (record { doc = doc; at = change.at; held = text })
      → Indexes new.index (texts ++ record { doc = doc; at = change.at; held = text } ∷ [])

-- the same plans with as much room for more, the same extents are taken, and the same pages are kept
pub record HasSameShelf (old new : ShelfState) : Type 0 where
  pub plans_are : new.plans ≡ old.plans
  pub room : old.room ≤ new.room
  pub taken : (extents : List Extent) → HasTaken old.pages extents → HasTaken new.pages extents
  pub cache_is : new.cache ≡ old.cache

-- an archive that is spent has what it had, and may be changed no more
pub record IsSpent (old new : ArchiveState) : Type 0 where
  pub end_is : new.end ≡ old.end
  pub length_is : new.length ≡ old.length
  pub changes_are : new.changes ≡ old.changes
  pub index_is : seen new.index ≡ seen old.index
  pub shelf_is : HasSameShelf old.shelf new.shelf
  pub marked_is : new.marked ≡ old.marked
  pub asked_is : new.asked ≡ old.asked
  pub job_is : new.job ≡ old.job
  pub live_is : new.live ≡ false

-- An archive that is spent within a batch has what it had but for what it tells of words, and may be changed no more.
pub record IsSpentBut (old new : ArchiveState) : Type 0 where
  pub end_is : new.end ≡ old.end
  pub length_is : new.length ≡ old.length
  pub changes_are : new.changes ≡ old.changes
  pub shelf_is : HasSameShelf old.shelf new.shelf
  pub marked_is : new.marked ≡ old.marked
  pub asked_is : new.asked ≡ old.asked
  pub job_is : new.job ≡ old.job
  pub live_is : new.live ≡ false

-- a change was made or refused, and so the archive isn't spent
abbrev pub IsDone : {T : Type 0} → Result T ChangeError → Type 0
IsDone result = IsOk result ⊎ ((why : Refusal) × (result ≡ Err (changes.Refused why)))

-- what comes of a change, or a plan, that was declined: it is refused, or the archive is spent
abbrev pub GivesUp : Declined → ChangeError → ArchiveState → ArchiveState → Type 0
GivesUp (declines.Refused why) error old new = (error ≡ changes.Refused why) × (new ≡ old)
GivesUp declines.Memory error old new = (error ≡ changes.Memory) × (new ≡ record old { live = false })
