-- What a run of the program with the words of a sample is: one run of the abstract archive over the sample's commands, the two lines that are
-- shown of it, and what each image left at any moment stands for.
use Rattle.std.specs.Prelude.{◌≡◌, ◌⊎◌, ℕ, ◌≤◌, List, [], ◌++◌, length, map}
use Rattle.machine_model.specs.Areas.{Bytes}
use Rattle.machine_model.specs.Moments.{GoesOn, LeavesOnly}
use Rattle.machine_model.specs.Pushes.{IsPrefix}
use Rattle.machine_model.specs.States.{DiskState, SinkState}
use Rattle.base_commands.specs.declared.command.Item.TheVariants as items
use Rattle.base_sample.specs.Samples.{sample_of}
use Rattle.model_archive.specs.Steps.{Reply, Step}
use Rattle.model_archive.specs.Runs.{Outcome, IsRun, state_after}
use Rattle.model_archive.specs.Standing.{last_state}
use Rattle.model_archive.specs.Stands.{EachStands, StandsIn}
use Rattle.model_archive.specs.Worlds.{World, world_of}
use Rattle.archive_replies.specs.Tallies.{sample_text}
use Rattle.run_sample.specs.Filling.{IsReport, replies_of}
use Rattle.run_sample.specs.declared.report.Report.{Report}
use Rattle.pages_sublists.specs.declared.why.Damage.{Damage}
use Rattle.run_script.specs.declared.status.Status.{Status}
use Rattle.run_script.specs.declared.status.Status.TheVariants.{Done, Disk, Sink, Damaged, Memory}

-- the statuses with which the carrying out of a sample may end
abbrev pub EndsSample : Status → Type 0
EndsSample Done = Unit {0}
EndsSample Disk = Unit {0}
EndsSample Sink = Unit {0}
EndsSample (Damaged damage) = Unit {0}
EndsSample Memory = Unit {0}
EndsSample other = ⊥

-- An image that was left, with the bytes shown then: it stands for the state after some of the outcomes, and once a byte of the lines was shown,
-- after all of them.
pub record Reached (outcomes : List (Outcome Reply World)) (before : List ℕ) (image : Bytes) (beside : List ℕ) : Type 0 where
  pub j : ℕ
  pub within : j ≤ length outcomes
  pub holds : StandsIn (state_after (world_of []) outcomes j) image
  pub shown : (beside ≡ before) ⊎ (j ≡ length outcomes)

-- One run of the abstract archive from the empty history over the commands of a sample, and what was shown of it.
pub record Sampled (seed count : ℕ) (status : Status) (output output_now : SinkState) (old new : DiskState) : Type 0 where
  pub outcomes : List (Outcome Reply World)
  pub run : IsRun Step (world_of []) (map items.Command (sample_of seed count)) outcomes
  -- a front of its two lines is shown, and at status 0 both of them
  pub report : Report
  pub report_is : IsReport (replies_of outcomes) report
  pub shown : List ℕ
  pub shown_is : output_now.shown ≡ output.shown ++ shown
  pub front : IsPrefix shown (sample_text count report.tally report.verdict)
  pub whole : status ≡ Done → shown ≡ sample_text count report.tally report.verdict
  pub goes_on : GoesOn old new
  -- each image left since, with the bytes shown then, stands for one of the states of the run
  pub images : EachStands old [] → LeavesOnly old new (Reached outcomes output.shown)
  -- at status 0 each image stands for the last one
  pub last : status ≡ Done → EachStands new (last_state (world_of []) outcomes).history
  -- nothing is damaged
  pub undamaged : (damage : Damage) → status ≡ Damaged damage → ⊥
