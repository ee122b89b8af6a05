-- What a run of the program with the word of a follower is: the packets of its input are taken into the archive, each as safe as an arrival.
use Rattle.std.specs.Prelude.{◌≡◌, ◌⊎◌, ℕ, List}
use Rattle.machine_model.specs.Causes.{Rose}
use Rattle.machine_model.specs.Moments.{GoesOn, LeavesOnly}
use Rattle.machine_model.specs.Pulls.{Pull}
use Rattle.machine_model.specs.States.{MachineState}
use Rattle.journal_gates.specs.Spelled.{EachSpells}
use Rattle.model_archive.specs.Histories.{History}
use Rattle.model_archive.specs.Runs.{Reopens}
use Rattle.model_archive.specs.Standing.{last_state}
use Rattle.model_archive.specs.Stands.{EachStands, IsNotArchive, Stands, bodies_of}
use Rattle.model_follow.specs.Following.{Follows, note_text}
use Rattle.run_taking.specs.Following.{Ran, SpellsIn, TellsAll}
use Rattle.run_taking.specs.declared.ended.Ended.{Ended}
use Rattle.run_script.specs.Statuses.{status_of_ended}
use Rattle.run_script.specs.declared.status.Status.{Status}
use Rattle.run_script.specs.declared.status.Status.TheVariants.{Done, NotArchive, Disk, Source, Sink, Budget, Memory, Gap, Conflict, Packet}

-- the statuses with which a run that follows may end
abbrev pub EndsFollow : Status → Type 0
EndsFollow Done = Unit {0}
EndsFollow (NotArchive at) = Unit {0}
EndsFollow Disk = Unit {0}
EndsFollow Source = Unit {0}
EndsFollow Sink = Unit {0}
EndsFollow Budget = Unit {0}
EndsFollow Memory = Unit {0}
EndsFollow (Gap have got) = Unit {0}
EndsFollow (Conflict number place kept got) = Unit {0}
EndsFollow (Packet at) = Unit {0}
EndsFollow other = ⊥

-- those with which it may end where nothing is wrong: the bytes of its input decide, or memory ran out
abbrev pub IsDecided : Status → Type 0
IsDecided Done = Unit {0}
IsDecided Budget = Unit {0}
IsDecided Memory = Unit {0}
IsDecided (Gap have got) = Unit {0}
IsDecided (Conflict number place kept got) = Unit {0}
IsDecided (Packet at) = Unit {0}
IsDecided other = ⊥

-- From the history that was loaded, one run over the packets of the bytes pulled: its status, the machine before and after, and the pulls among its
-- calls.
pub record Replicated (history : History) (status : Status) (old new : MachineState) (pulls : List Pull) : Type 0 where
  pub end : Ended
  pub status_is : status ≡ status_of_ended end
  pub ran : Ran Follows (λ h. h) history end old.source new.source old.sink new.sink pulls
  pub goes_on : GoesOn old.disk new.disk
  -- once a byte of it is shown, each image that a stop may leave has the journal of the history after as many packets as these bytes acknowledge, or
  -- one more
  pub durable : LeavesOnly old.disk new.disk
      (λ image beside. (beside ≡ old.sink.shown) ⊎ Reopens note_text SpellsIn history ran.outcomes old.sink.shown image beside)
  -- so has each image left since, where each spelled the history's entries at the start; and it stands for that history, where each stood for the
  -- first one
  pub spelled : EachSpells old.disk (bodies_of history) → LeavesOnly old.disk new.disk
      (Reopens note_text SpellsIn history ran.outcomes old.sink.shown)
  pub images : EachStands old.disk history → LeavesOnly old.disk new.disk (Reopens note_text Stands history ran.outcomes old.sink.shown)
  -- where all in front of the end are told, each image is of the last history
  pub last_spelled : TellsAll end → EachSpells new.disk (bodies_of (last_state history ran.outcomes))
  pub last : EachStands old.disk history → TellsAll end → EachStands new.disk (last_state history ran.outcomes)

-- Where nothing is wrong, the bytes of the input decide how a run ends, unless memory runs out.
abbrev pub IsCompletelyFollowed : Status → MachineState → MachineState → Type 0
IsCompletelyFollowed status old new =
    ((at : ℕ) → IsNotArchive old.disk.holds at → ⊥) → (Rose old.disk.faults new.disk.faults → ⊥)
    → (Rose old.source.faults new.source.faults → ⊥) → (Rose old.sink.faults new.sink.faults → ⊥) → IsDecided status
