-- A sample while it is carried out: one command, and those so far.
use Rattle.std.specs.Prelude.{◌≡◌, ◌⊎◌, List, [], ◌∷◌, ◌++◌, length, map, Option, Some, None, Result, Ok, Err, IsSome}
use Rattle.machine_model.specs.Moments.{GoesOn, LeavesOnly}
use Rattle.machine_model.specs.States.{DiskState}
use Rattle.base_commands.specs.declared.command.Command.{Command}
use Rattle.base_commands.specs.declared.command.Command.TheVariants as plain
use Rattle.base_commands.specs.declared.command.Item.TheVariants as items
use Rattle.model_archive.specs.declared.verdict.Verdict.{Verdict}
use Rattle.model_archive.specs.Histories.{History}
use Rattle.model_archive.specs.Steps.{Reply, Accepted, Refused, Found, Planned, Verified, Step}
use Rattle.model_archive.specs.Runs.{Outcome, IsRun}
use Rattle.model_archive.specs.Standing.{last_state}
use Rattle.model_archive.specs.Stands.{EachStands, Stands}
use Rattle.model_archive.specs.Worlds.{World}
use Rattle.archive_replies.specs.Tallies.{tally_of}
use Rattle.archive_replies.specs.declared.tally.Tally.{Tally}
use Rattle.archive_hand.specs.States.{ArchiveState, AreInStep}
use Rattle.archive_hand.specs.Takes.{Ending, Replied, Starved, Faulted, Spoiled}
use Rattle.run_sample.specs.declared.error.FillError.{FillError}
use Rattle.run_sample.specs.declared.error.FillError.TheVariants as errors
use Rattle.run_sample.specs.declared.note.Note.{Note}
use Rattle.run_sample.specs.declared.note.Note.TheVariants as notes
use Rattle.run_sample.specs.Filling.{Fills, replies_of}

-- what a check told, if it was one
abbrev pub verdict_of : Note → Option Verdict
verdict_of notes.Accepted = None
verdict_of notes.Refused = None
verdict_of (notes.Found hits read) = None
verdict_of (notes.Checked verdict) = Some verdict

-- a reply to a command of a sample, as it is counted
abbrev pub IsTold : Reply → Result Note FillError → Type 0
IsTold (Accepted count) result = result ≡ Ok notes.Accepted
IsTold (Planned summary) result = result ≡ Ok notes.Accepted
IsTold (Refused why) result = result ≡ Ok notes.Refused
IsTold (Found rows read) result = result ≡ Ok (notes.Found (length rows) read)
IsTold (Verified verdict) result = result ≡ Ok (notes.Checked verdict)
IsTold other result = ⊥

-- the end of a call, as a note or an error
abbrev pub Tells : Ending → Result Note FillError → Type 0
Tells (Replied reply) result = IsTold reply result
Tells Starved result = result ≡ Err errors.Memory
Tells Faulted result = result ≡ Err errors.Failed
Tells (Spoiled damage) result = result ≡ Err (errors.Damaged damage)

-- each image left since stands for the history before or the one after; what stands beside it is as it was
pub record LeadsTo (before after : History) (old new : DiskState) : Type 0 where
  pub goes_on : GoesOn old new
  pub images : LeavesOnly old new (λ image beside. (Stands before image ⊎ Stands after image) × (beside ≡ old.now.beside))

-- Where there is a note it is that of the outcome's reply, and the archive stands for the history after the outcome; where memory ran out, each
-- image stands for the history before it. Nothing is damaged.
abbrev pub EndsIn : World → Outcome Reply World → DiskState → ArchiveState → Result Note FillError → Type 0
EndsIn before outcome new archive_now (Ok note) = IsTold outcome.reply (Ok note) × AreInStep new archive_now outcome.next
EndsIn before outcome new archive_now (Err errors.Failed) = Unit {0}
EndsIn before outcome new archive_now (Err (errors.Damaged damage)) = ⊥
EndsIn before outcome new archive_now (Err errors.Memory) = EachStands new before.history

-- One command carried out: it has an outcome of the abstract archive. Each image left since the start stands for the history before the outcome or after it.
pub record CarriesOut (world : World) (command : Command) (result : Result Note FillError) (old new : DiskState)
    (archive_now : ArchiveState) : Type 0 where
  pub outcome : Outcome Reply World
  pub step : Step world (items.Command command) outcome.reply outcome.next
  pub leads : LeadsTo world.history outcome.next.history old new
  pub ends : EndsIn world outcome new archive_now result

-- a verdict in hand is what the last reply told
abbrev pub IsLast : List Reply → Option Verdict → Type 0
IsLast replies None = Unit {0}
IsLast replies (Some verdict) = (front : List Reply) × (replies ≡ front ++ Verified verdict ∷ [])

-- what is to come ends with a check; or nothing is to come, and the last command was a check
abbrev pub ComesToCheck : List Command → Option Verdict → Type 0
ComesToCheck rest last = ((front : List Command) × (rest ≡ front ++ plain.Verify ∷ [])) ⊎ ((rest ≡ []) × IsSome last)

-- Of these commands all but the rest are carried out, from this state on, and these are their outcomes. The archive is in step with its disk
-- after the last of them.
pub record Goes (world : World) (commands rest : List Command) (outcomes : List (Outcome Reply World)) (old now : DiskState)
    (archive : ArchiveState) : Type 0 where
  pub done : List Command
  pub commands_are : commands ≡ done ++ rest
  pub run : IsRun Step world (map items.Command done) outcomes
  pub fills : Fills world outcomes old now
  pub in_step : AreInStep now archive (last_state world outcomes)

-- the same, and what was counted of the outcomes
pub record Counts (world : World) (commands rest : List Command) (tally : Tally) (last : Option Verdict) (old now : DiskState)
    (archive : ArchiveState) : Type 0 where
  pub outcomes : List (Outcome Reply World)
  pub goes : Goes world commands rest outcomes old now archive
  pub tally_is : tally ≡ tally_of (replies_of outcomes)
  pub last_is : IsLast (replies_of outcomes) last
