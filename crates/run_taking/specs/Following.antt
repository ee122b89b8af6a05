-- What a run that follows another archive is: each packet of the bytes pulled in turn, up to one that ends the run; what was shown of it, and
-- what each image left at any moment has.
use Rattle.std.specs.Prelude.{◌≡◌, ◌⊎◌, ℕ, ◌<◌, ◌≤◌, ◌^◌, Bool, true, false, List, [], ◌++◌, length, All}
use Rattle.machine_model.specs.Areas.{Bytes}
use Rattle.machine_model.specs.Causes.{Rose}
use Rattle.machine_model.specs.Moments.{GoesOn, LeavesOnly}
use Rattle.machine_model.specs.Pulls.{Pull}
use Rattle.machine_model.specs.Pushes.{IsPrefix}
use Rattle.machine_model.specs.States.{MachineState, SinkState, SourceState}
use Rattle.journal_gates.specs.Spelled.{EachSpells, Spells}
use Rattle.journal_packets.specs.Packets.{Framed, IsFramed, first}
use Rattle.journal_packets.specs.Streams.{stream}
use Rattle.journal_packets.specs.declared.first.First.TheVariants.{Bad, End, More}
use Rattle.model_archive.specs.Histories.{History}
use Rattle.model_archive.specs.Runs.{IsRun, Outcome, Reopens, shown_by}
use Rattle.model_archive.specs.Standing.{last_state}
use Rattle.model_archive.specs.Stands.{EachStands, Stands, bodies_of}
use Rattle.model_follow.specs.Following.{BeginWith, CannotBeTaken, DiffersAt, Follows, IsBeyond, Note, length_text, note_text}
use Rattle.run_taking.specs.declared.ended.Ended.{Ended}
use Rattle.run_taking.specs.declared.ended.Ended.TheVariants.{Done, NotArchive, Disk, Source, Sink, Budget, Memory, Gap, Conflict, Packet}

-- What a packet says of how the run ends at it, if the run does: behind this history, with its first byte at this place in the input.
abbrev pub EndsFor : History → ℕ → Framed → Ended → Type 0
EndsFor history at p (Gap have got) = (have ≡ length history) × (got ≡ p.number) × IsBeyond history p
EndsFor history at p (Conflict number place kept got) = (number ≡ p.number) × DiffersAt history place kept got p
EndsFor history at p (Packet place) = (place ≡ at) × CannotBeTaken history p
EndsFor history at p Memory = Unit {0}
EndsFor history at p other = ⊥

-- What is said by how it ended of the place where it did: of the packets behind those that were carried out, of what is left behind them, the first
-- byte of which has this place in the input and the end of which was told or not, and of the history then. The cases exclude one another, so where
-- no fault and no want of memory ends it, the bytes decide.
abbrev pub EndsAt : Ended → History → ℕ → ℕ → Bool → List Framed → List ℕ → Type 0
EndsAt Done history at count ended behind rest = (behind ≡ []) × (first ended rest ≡ End)
EndsAt Source history at count ended behind rest = (behind ≡ []) × (first ended rest ≡ More) × (count < 2 ^ 40)
EndsAt Budget history at count ended behind rest = (behind ≡ []) × (first ended rest ≡ More) × (count ≡ 2 ^ 40)
EndsAt (Gap have got) history at count ended behind rest = BeginWith behind (λ p. EndsFor history at p (Gap have got))
EndsAt (Conflict number place kept got) history at count ended behind rest =
    BeginWith behind (λ p. EndsFor history at p (Conflict number place kept got))
EndsAt (Packet place) history at count ended behind rest = ((place ≡ at) × (behind ≡ []) × (first ended rest ≡ Bad))
    ⊎ BeginWith behind (λ p. EndsFor history at p (Packet place))
EndsAt (NotArchive place) history at count ended behind rest = ⊥
EndsAt Disk history at count ended behind rest = Unit {0}
EndsAt Sink history at count ended behind rest = Unit {0}
EndsAt Memory history at count ended behind rest = Unit {0}

-- the ends before which each packet in front of the one that ends the run is carried out and its line shown
abbrev pub TellsAll : Ended → Type 0
TellsAll Done = Unit {0}
TellsAll Source = Unit {0}
TellsAll Budget = Unit {0}
TellsAll (Gap have got) = Unit {0}
TellsAll (Conflict number place kept got) = Unit {0}
TellsAll (Packet at) = Unit {0}
TellsAll other = ⊥

-- A pull comes after the lines: what had been pulled by then is packets whose lines had been shown, and the front of one more, or nothing.
pub record ComesAfterLines {S : Type 0} (input : SourceState) (output : SinkState) (packets : List Framed)
    (outcomes : List (Outcome Note S)) (pull : Pull) : Type 0 where
  pub pulled : List ℕ
  pub pulled_are : input.left ≡ pulled ++ pull.left
  pub before : List Framed
  pub to_come : List Framed
  pub packets_are : packets ≡ before ++ to_come
  pub rest : List ℕ
  pub split : pulled ≡ stream before ++ rest
  pub open_rest : first false rest ≡ More
  pub answered : List (Outcome Note S)
  pub not_yet : List (Outcome Note S)
  pub outcomes_are : outcomes ≡ answered ++ not_yet
  pub each : length answered ≡ length before
  pub shown : pull.shown ≡ output.shown ++ shown_by note_text answered

-- One run from this state over the packets of the bytes pulled that are carried out, and what was shown of it. The states are any that have a history.
pub record Ran {S : Type 0} (step : S → Framed → Note → S → Type 0) (history_of : S → History) (state : S) (end : Ended)
    (input input_now : SourceState) (output output_now : SinkState) (pulls : List Pull) : Type 0 where
  -- the bytes pulled, and whether the end of the input was told
  pub pulled : List ℕ
  pub pulled_are : input.left ≡ pulled ++ input_now.left
  pub ended : Bool
  pub ended_is : ended ≡ true → input_now.left ≡ []
  -- they are packets, those that are carried out and those behind them, and what is left
  pub carried : List Framed
  pub behind : List Framed
  pub rest : List ℕ
  pub proper : All IsFramed (carried ++ behind)
  pub split : pulled ≡ stream (carried ++ behind) ++ rest
  -- one run over those that are carried out
  pub outcomes : List (Outcome Note S)
  pub run : IsRun step state carried outcomes
  pub ends : EndsAt end (history_of (last_state state outcomes)) (length (stream carried)) (length pulled) ended behind rest
  -- what was shown is a front of its lines; the last line comes behind all of them, at the end of the input
  pub shown : List ℕ
  pub shown_is : output_now.shown ≡ output.shown ++ shown
  pub front : IsPrefix shown (shown_by note_text outcomes)
      ⊎ ((behind ≡ []) × (first ended rest ≡ End)
      × IsPrefix shown (shown_by note_text outcomes ++ length_text (length (history_of (last_state state outcomes)))))
  pub whole : TellsAll end → IsPrefix (shown_by note_text outcomes) shown
  pub done : end ≡ Done → shown ≡ shown_by note_text outcomes ++ length_text (length (history_of (last_state state outcomes)))
  pub after_lines : All (ComesAfterLines input output carried outcomes) pulls

-- an image's journal spells a history's entries
abbrev pub SpellsIn : History → Bytes → Type 0
SpellsIn history image = Spells image.journal (bodies_of history)

-- A run from this history: how it ended, the machine before and after, and the pulls among its calls.
pub record Followed (history : History) (end : Ended) (old new : MachineState) (pulls : List Pull) : Type 0 where
  pub ran : Ran Follows (λ h. h) history end old.source new.source old.sink new.sink pulls
  pub goes_on : GoesOn old.disk new.disk
  -- each image left since, with the bytes shown then, has the journal of the history after as many packets as these acknowledge, or one more; and it
  -- stands for that history, where each image stood for the first one
  pub spelled : LeavesOnly old.disk new.disk (Reopens note_text SpellsIn history ran.outcomes old.sink.shown)
  pub images : EachStands old.disk history → LeavesOnly old.disk new.disk (Reopens note_text Stands history ran.outcomes old.sink.shown)
  -- where all in front of the end are told, each image is of the last history
  pub last_spelled : TellsAll end → EachSpells new.disk (bodies_of (last_state history ran.outcomes))
  pub last : EachStands old.disk history → TellsAll end → EachStands new.disk (last_state history ran.outcomes)

-- A run may end so: a fault comes only where the machine's count rose.
pub record MayEnd (end : Ended) (old new : MachineState) : Type 0 where
  pub source : end ≡ Source → Rose old.source.faults new.source.faults
  pub sink : end ≡ Sink → Rose old.sink.faults new.sink.faults
  pub disk : end ≡ Disk → Rose old.disk.faults new.disk.faults

-- no count of faults fell
pub record IsLater (old new : MachineState) : Type 0 where
  pub source : old.source.faults ≤ new.source.faults
  pub sink : old.sink.faults ≤ new.sink.faults
  pub disk : old.disk.faults ≤ new.disk.faults

-- Where no count of faults rose, the run ends as the bytes decide, or memory ran out.
abbrev pub EndsByBytes : Ended → MachineState → MachineState → Type 0
EndsByBytes end old new = (Rose old.disk.faults new.disk.faults → ⊥) → (Rose old.source.faults new.source.faults → ⊥)
    → (Rose old.sink.faults new.sink.faults → ⊥) → (end ≡ Memory) ⊎ TellsAll end
