-- How an entry is added for the history that an archive stands for.
use Rattle.std.specs.Prelude.{◌≡◌, false, ◌⊎◌, ℕ, ◌+◌, [], ◌∷◌, ◌++◌, length, Option, Some, None, unwrap_or, Result, Err, IsOk, IfOk}
use Rattle.std.specs.List.{flat_map}
use Rattle.base_commands.specs.declared.batch.BatchItems.{BatchItems}
use Rattle.base_commands.specs.declared.batch.BatchItems.TheVariants.{Items, TooLong}
use Rattle.model_archive.specs.declared.refusal.Refusal.{Refusal}
use Rattle.model_archive.specs.declared.refusal.Refusal.TheVariants as refusals
use Rattle.journal_entries.specs.declared.entry.Entry.{Entry}
use Rattle.journal_entries.specs.declared.entry.Entry.TheVariants.{Batch}
use Rattle.archive_hand.specs.States.{ArchiveState, StandsFor}
use Rattle.archive_hand.specs.declared.error.ChangeError.{ChangeError}
use Rattle.archive_hand.specs.declared.error.ChangeError.TheVariants as changes
use Rattle.archive_entries.specs.declared.error.BatchDeclined.{BatchDeclined}
use Rattle.archive_entries.specs.declared.error.BatchDeclined.TheVariants as declines
use Rattle.archive_changes.specs.declared.error.BatchError.{BatchError}
use Rattle.archive_changes.specs.declared.error.BatchError.TheVariants as batches
use Rattle.model_archive.specs.Histories.{History, most_batch, old_format}
use Rattle.model_archive.specs.Steps.{Cause, act_of, batch_cause}

-- what an open archive says of an entry that was to be added, for the history that it stood for
pub record Adds (history : History) (entry : Entry) (refusal : Option Refusal) (result : Result ℕ ChangeError)
    (new : ArchiveState) : Type 0 where
  pub refused : (why : Refusal) → result ≡ Err (changes.Refused why) → refusal ≡ Some why
  pub allowed : IsOk result ⊎ (result ≡ Err changes.Failed) → refusal ≡ None
  pub stands : IfOk result (λ n. StandsFor new (history ++ entry ∷ []) × (n ≡ length history + 1))

-- the same of one that is refused for a cause, as a batch is
pub record AddsAll (history : History) (entry : Entry) (cause : Option Cause) (result : Result ℕ BatchError)
    (new : ArchiveState) : Type 0 where
  pub refused : (why : Refusal) (index : Option ℕ) → result ≡ Err (batches.Refused why index)
      → cause ≡ Some (record { why = why; index = index })
  pub allowed : IsOk result ⊎ (result ≡ Err batches.Failed) → cause ≡ None
  pub stands : IfOk result (λ n. StandsFor new (history ++ entry ∷ []) × (n ≡ length history + 1))

-- what comes of a batch that was declined: it is refused, or the archive is spent
abbrev pub GivesUpAll : BatchDeclined → BatchError → ArchiveState → ArchiveState → Type 0
GivesUpAll (declines.Refused why index) error old new = (error ≡ batches.Refused why index) × (new ≡ old)
GivesUpAll declines.Memory error old new = (error ≡ batches.Memory) × (new ≡ record old { live = false })

-- what it says of a batch: with items that were held, or with some whose texts are together too long to be
abbrev pub AddsBatch : History → BatchItems → Result ℕ BatchError → ArchiveState → Type 0
AddsBatch history (Items items) result new = AddsAll history (Batch (flat_map act_of items)) (batch_cause history items) result new
AddsBatch history (TooLong bytes) result new = result
    ≡ Err (batches.Refused (unwrap_or (old_format history) (refusals.BatchTooLong most_batch)) None)
