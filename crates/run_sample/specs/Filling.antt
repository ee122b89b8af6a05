-- What it is to carry out the commands of a sample on an archive.
use Rattle.std.specs.Prelude.{◌≡◌, ◌≤◌, ℕ, List, [], ◌∷◌, ◌++◌, length, map, Result, Ok, Err}
use Rattle.machine_model.specs.Areas.{Bytes}
use Rattle.machine_model.specs.States.{DiskState}
use Rattle.machine_model.specs.Moments.{GoesOn, LeavesOnly}
use Rattle.base_commands.specs.declared.command.Command.{Command}
use Rattle.base_commands.specs.declared.command.Item.TheVariants as items
use Rattle.model_archive.specs.Steps.{Reply, Verified, Step}
use Rattle.model_archive.specs.Runs.{Outcome, IsRun, state_after}
use Rattle.model_archive.specs.Standing.{last_state}
use Rattle.model_archive.specs.Stands.{EachStands, StandsIn}
use Rattle.model_archive.specs.Worlds.{World}
use Rattle.archive_replies.specs.Tallies.{tally_of}
use Rattle.archive_hand.specs.States.{ArchiveState, AreInStep}
use Rattle.run_sample.specs.declared.report.Report.{Report}
use Rattle.run_sample.specs.declared.error.FillError.{FillError}
use Rattle.run_sample.specs.declared.error.FillError.TheVariants as errors

-- the replies of outcomes
abbrev pub replies_of : List (Outcome Reply World) → List Reply
replies_of outcomes = map (λ outcome. outcome.reply) outcomes

-- what is told of these replies: their counts, and the verdict of the check that comes last
pub record IsReport (replies : List Reply) (report : Report) : Type 0 where
  pub tally_is : report.tally ≡ tally_of replies
  pub front : List Reply
  pub ends : replies ≡ front ++ Verified report.verdict ∷ []

-- an image stands for the state after some of the outcomes
abbrev pub StandsAmong : World → List (Outcome Reply World) → Bytes → Type 0
StandsAmong world outcomes image = (j : ℕ) × (j ≤ length outcomes) × StandsIn (state_after world outcomes j) image

-- Each image left since stands for the state after some of the outcomes; what stands beside it is as it was.
pub record Fills (world : World) (outcomes : List (Outcome Reply World)) (old new : DiskState) : Type 0 where
  pub goes_on : GoesOn old new
  pub images : LeavesOnly old new (λ image beside. StandsAmong world outcomes image × (beside ≡ old.now.beside))

-- At Ok the report is that of the outcomes, and the archive stands for the last history; where memory ran out, each image stands for one history of
-- the run. Nothing is damaged.
abbrev pub EndsFilled : World → List (Outcome Reply World) → DiskState → ArchiveState → Result Report FillError → Type 0
EndsFilled world outcomes new archive_now (Ok report) = IsReport (replies_of outcomes) report
    × AreInStep new archive_now (last_state world outcomes)
EndsFilled world outcomes new archive_now (Err errors.Failed) = Unit {0}
EndsFilled world outcomes new archive_now (Err (errors.Damaged damage)) = ⊥
EndsFilled world outcomes new archive_now (Err errors.Memory) = (j : ℕ) × (j ≤ length outcomes)
    × EachStands new (state_after world outcomes j).history

-- One run of the abstract archive from the state over these commands, carried out up to the result.
pub record IsFilled (world : World) (commands : List Command) (result : Result Report FillError) (old new : DiskState)
    (archive_now : ArchiveState) : Type 0 where
  pub outcomes : List (Outcome Reply World)
  pub run : IsRun Step world (map items.Command commands) outcomes
  pub fills : Fills world outcomes old new
  pub ends : EndsFilled world outcomes new archive_now result
