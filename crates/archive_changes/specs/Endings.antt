-- How the calls that change an archive end.
use Rattle.std.specs.Prelude.{ℕ, None, Result, Ok, Err}
use Rattle.model_archive.specs.declared.summary.Summary.{Summary}
use Rattle.model_archive.specs.Steps.{Accepted, Begun as BegunReply, Refused, Planned, refused_for}
use Rattle.archive_entries.specs.declared.error.Declined.{Declined}
use Rattle.archive_entries.specs.declared.error.Declined.TheVariants as declines
use Rattle.archive_hand.specs.declared.job.Begun.{Begun}
use Rattle.archive_hand.specs.declared.error.ChangeError.{ChangeError}
use Rattle.archive_hand.specs.declared.error.ChangeError.TheVariants as changes
use Rattle.archive_changes.specs.declared.error.BatchError.{BatchError}
use Rattle.archive_changes.specs.declared.error.BatchError.TheVariants as batches
use Rattle.archive_hand.specs.Takes.{Ending, Replied, Starved, Faulted}

-- how changes end
abbrev pub unchanged : ChangeError → Ending
unchanged (changes.Refused why) = Replied (Refused why)
unchanged changes.Failed = Faulted
unchanged changes.Memory = Starved

abbrev pub changed : Result ℕ ChangeError → Ending
changed (Ok length) = Replied (Accepted length)
changed (Err error) = unchanged error

abbrev pub planned : Result Summary ChangeError → Ending
planned (Ok summary) = Replied (Planned summary)
planned (Err error) = unchanged error

-- how a plan is begun
abbrev pub begun : Result Begun Declined → Ending
begun (Ok told) = Replied (BegunReply told.segments told.pages)
begun (Err (declines.Refused why)) = Replied (Refused why)
begun (Err declines.Memory) = Starved

-- ---- batches

-- an error for a whole batch
abbrev pub for_whole : ChangeError → BatchError
for_whole (changes.Refused why) = batches.Refused why None
for_whole changes.Failed = batches.Failed
for_whole changes.Memory = batches.Memory

-- how a batch ends for which nothing was refused but the whole
abbrev pub as_whole : Result ℕ ChangeError → Result ℕ BatchError
as_whole (Ok length) = Ok length
as_whole (Err error) = Err (for_whole error)

-- the error of a batch, with the number of the item left out
abbrev pub plain_error : BatchError → ChangeError
plain_error (batches.Refused why index) = changes.Refused why
plain_error batches.Failed = changes.Failed
plain_error batches.Memory = changes.Memory

-- what a batch ends with, with the number of the item left out
abbrev pub plainly : Result ℕ BatchError → Result ℕ ChangeError
plainly (Ok length) = Ok length
plainly (Err error) = Err (plain_error error)

-- how batches end
abbrev pub unmade : BatchError → Ending
unmade (batches.Refused why index) = Replied (refused_for why index)
unmade batches.Failed = Faulted
unmade batches.Memory = Starved

abbrev pub changed_all : Result ℕ BatchError → Ending
changed_all (Ok length) = Replied (Accepted length)
changed_all (Err error) = unmade error
