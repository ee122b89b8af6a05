-- What a run of the program with the words of an export is: the packets of a history's entries from one on are shown, and the archive is
-- left as a load leaves it.
use Rattle.std.specs.Prelude.{◌≡◌, ◌⊎◌, ℕ, ◌<◌, List, ◌++◌, length}
use Rattle.machine_model.specs.Areas.{Bytes}
use Rattle.machine_model.specs.Images.{MayLeave}
use Rattle.machine_model.specs.Moments.{GoesOn, LeavesOnly}
use Rattle.machine_model.specs.Pushes.{IsPrefix, OnlyShows}
use Rattle.machine_model.specs.States.{DiskState, SinkState}
use Rattle.journal_gates.specs.Records.{new_bytes}
use Rattle.journal_gates.specs.Spelled.{EachSpells, Spells}
use Rattle.journal_packets.specs.Streams.{export, stream}
use Rattle.model_archive.specs.Histories.{History}
use Rattle.model_archive.specs.Stands.{EachStands, Stands, bodies_of}
use Rattle.run_script.specs.declared.status.Status.{Status}
use Rattle.run_script.specs.declared.status.Status.TheVariants.{Done, NotArchive, Disk, Sink, Memory}

-- the statuses with which an export may end
abbrev pub EndsExport : Status → Type 0
EndsExport Done = Unit {0}
EndsExport (NotArchive at) = Unit {0}
EndsExport Disk = Unit {0}
EndsExport Sink = Unit {0}
EndsExport Memory = Unit {0}
EndsExport other = ⊥

-- The export of a history from an entry on, and what was shown of it.
pub record Exported (history : History) (from : ℕ) (status : Status) (output output_now : SinkState) (old new : DiskState) : Type 0 where
  -- a front of the packets is shown, and at status 0 all of them
  pub shown : List ℕ
  pub shown_is : output_now.shown ≡ output.shown ++ shown
  pub front : IsPrefix shown (stream (export from (bodies_of history)))
  pub whole : status ≡ Done → shown ≡ stream (export from (bodies_of history))
  pub goes_on : GoesOn old new
  -- once a byte of them is shown, each image that a stop may leave spells the history's entries: nobody gets an entry that may be lost
  pub durable : LeavesOnly old new (λ image beside. (beside ≡ output.shown) ⊎ Spells image.journal (bodies_of history))
  -- each image left since spells the history's entries, where each did at the start, and stands for the history, where each did
  pub spelled : EachSpells old (bodies_of history) → LeavesOnly old new (λ image beside. Spells image.journal (bodies_of history))
  pub images : EachStands old history → LeavesOnly old new (λ image beside. Stands history image)

-- An image has the pages of one that was allowed at the start.
abbrev pub HasPagesOf : DiskState → Bytes → Type 0
HasPagesOf old image = (was : Bytes) × MayLeave old.now was × (image.pages ≡ was.pages)

-- Whatever a disk has, an export leaves its pages alone, and its journal too, but that it begins one that is new. Beside each image stand
-- bytes that go on from those shown at the start.
pub record LeavesAlone (old new : DiskState) (before after : List ℕ) : Type 0 where
  pub goes_on : GoesOn old new
  pub pages : LeavesOnly old new (λ image beside. HasPagesOf old image × IsPrefix before beside × IsPrefix beside after)
  -- where the journal isn't new, reads give what they gave, and each image left since was allowed at the start
  pub longer : new_bytes < length old.holds.journal → (new.holds ≡ old.holds) × OnlyShows old new before after
