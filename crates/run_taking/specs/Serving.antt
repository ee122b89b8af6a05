-- A run that follows another archive, by what reads give, while it goes on and when it has ended.
use Rattle.std.specs.Prelude.{◌≡◌, ◌⊎◌, ℕ, true, List, [], ◌∷◌, ◌++◌, ◌+◌, length, map, All, Option, Some, None, Result, Ok, Err, IsTrue}
use Rattle.machine_model.specs.Areas.{Both}
use Rattle.machine_model.specs.Moments.{GoesOn, LeavesOnly}
use Rattle.machine_model.specs.Pulls.{Pull}
use Rattle.machine_model.specs.Pushes.{IsPrefix}
use Rattle.machine_model.specs.States.{DiskState, MachineState, SourceState}
use Rattle.journal_bodies.specs.Numbered.{AreIn, NumberedState}
use Rattle.journal_packets.specs.Packets.{Framed, first}
use Rattle.journal_packets.specs.Reading.{PacketsState, Says}
use Rattle.journal_packets.specs.Streams.{IsPacketOf, Reads}
use Rattle.journal_packets.specs.declared.case.Case.{Case}
use Rattle.journal_packets.specs.declared.case.Case.TheVariants as cases
use Rattle.journal_packets.specs.declared.error.PacketError.{PacketError}
use Rattle.journal_packets.specs.declared.error.PacketError.TheVariants as errors
use Rattle.journal_packets.specs.declared.first.First.TheVariants.{End}
use Rattle.journal_packets.specs.declared.packet.Packet.{Packet}
use Rattle.model_archive.specs.Histories.{History}
use Rattle.model_archive.specs.Runs.{IsRun, Outcome, shown_by}
use Rattle.model_archive.specs.Standing.{Carried, last_state}
use Rattle.model_archive.specs.Stands.{bodies_of}
use Rattle.archive_hand.specs.Changing.{KeepsBy, LeadsBy}
use Rattle.archive_hand.specs.States.{ArchiveState, AreInStepBy, Reaches}
use Rattle.archive_hand.specs.Stored.{EachStandsBy, StandsBy, Store, Stocks}
use Rattle.model_follow.specs.Following.{DiffersAt, Follows, IsBeyond, Note, note_text}
use Rattle.run_taking.specs.Following.{ComesAfterLines, EndsFor, Ran, TellsAll}
use Rattle.run_taking.specs.declared.ended.Ended.{Ended}
use Rattle.run_taking.specs.declared.ended.Ended.TheVariants as ends

-- ---- ends

-- the ends of a run over packets: the journal was an archive's before
abbrev pub EndsARun : Ended → Type 0
EndsARun (ends.NotArchive at) = ⊥
EndsARun other = Unit {0}

-- ---- reading

-- how a run ends where there is no next packet
abbrev pub end_by : PacketError → Ended
end_by (errors.Bad at) = ends.Packet at
end_by errors.Budget = ends.Budget
end_by errors.Failed = ends.Source
end_by errors.Memory = ends.Memory

-- what an answer of the reader is to a run: the next packet, or how the run ends
abbrev pub next_by : Result (Option Packet) PacketError → Result Packet Ended
next_by (Ok (Some packet)) = Ok packet
next_by (Ok None) = Err ends.Done
next_by (Err error) = Err (end_by error)

-- What a call of the reader gave: the bytes that it pulled, and what they say.
pub record Gives (held held_now : PacketsState) (next : Result Packet Ended) (before after : SourceState) : Type 0 where
  pub answer : Result (Option Packet) PacketError
  pub next_is : next ≡ next_by answer
  pub more : List ℕ
  pub gave : before.left ≡ more ++ after.left
  pub says : Says (held.bytes ++ more) held.passed answer held_now
  pub told : (held.ended ≡ true → before.left ≡ []) → held_now.ended ≡ true → after.left ≡ []

-- the pulls of a machine that shows this, where this was left before each
abbrev pub pulls_beside : List ℕ → List (List ℕ) → List Pull
pulls_beside shown lefts = map (λ left. record { left = left; shown = shown }) lefts

-- Since a run began, these bytes were pulled: packets that were given out, and then what is held.
pub record Pulling (old now : SourceState) (held : PacketsState) : Type 0 where
  pub pulled : List ℕ
  pub pulled_are : old.left ≡ pulled ++ now.left
  pub told : held.ended ≡ true → now.left ≡ []
  pub packets : List Framed
  pub reads : Reads pulled packets held

-- ---- a packet

-- a run can go on: the archive is live, its disk reaches as far, and the bodies end where its journal does
pub record CanGoOn (reach : Both ℕ) (archive : ArchiveState) (numbered : NumberedState) : Type 0 where
  pub live : IsTrue archive.live
  pub reaches : Reaches reach archive
  pub ends : numbered.window.end ≡ archive.end

-- what a packet is to a history
abbrev pub IsCaseOf : History → Framed → Case → Type 0
IsCaseOf history p cases.Had = IsPacketOf (bodies_of history) p
IsCaseOf history p (cases.Conflict place kept got) = DiffersAt history place kept got p
IsCaseOf history p cases.Gap = IsBeyond history p
IsCaseOf history p cases.Next = p.number ≡ length history + 1

-- An archive follows: it is in step with what is stored, no plan is being written, and the bodies are those of its journal.
pub record IsFollowing (d : DiskState) (archive : ArchiveState) (numbered : NumberedState) (store : Store) : Type 0 where
  pub in_step : AreInStepBy d archive store
  pub idle : store.job ≡ None
  pub bodies : AreIn d.holds.journal (bodies_of store.history) numbered

-- The step over a packet by what reads give: the history's, and each live place keeps its bytes; those of a plan that is taken hold its sublists.
abbrev pub StoreFollows : Store → Framed → Note → Store → Type 0
StoreFollows store p note next = Follows store.history p note next.history × Stocks store next

-- the ends that come where the entry of a packet can't be read
abbrev pub ComesOfReading : Ended → Type 0
ComesOfReading ends.Disk = Unit {0}
ComesOfReading ends.Memory = Unit {0}
ComesOfReading other = ⊥

-- the ends that come of a packet before its line is shown
abbrev pub ComesOfPacket : Ended → Type 0
ComesOfPacket ends.Disk = Unit {0}
ComesOfPacket ends.Memory = Unit {0}
ComesOfPacket (ends.Gap have got) = Unit {0}
ComesOfPacket (ends.Conflict number place kept got) = Unit {0}
ComesOfPacket (ends.Packet at) = Unit {0}
ComesOfPacket other = ⊥

-- What came of a packet whose first byte has this place in the input, with the line on the page; or how the run ends. Where it ends for the packet, or
-- for want of memory, nothing came of it; where the disk failed, it may have been carried out.
abbrev pub CameOf : Store → ℕ → Framed → Result (Unit {0}) Ended → DiskState → DiskState → ArchiveState → NumberedState → List ℕ → Type 0
CameOf store at p (Ok done) old new archive_now numbered page = (note : Note) × (next : Store) × StoreFollows store p note next
    × LeadsBy store next old new × IsFollowing new archive_now numbered next × (page ≡ note_text note)
CameOf store at p (Err ends.Disk) old new archive_now numbered page = KeepsBy store old new
    ⊎ ((note : Note) × (next : Store) × StoreFollows store p note next × LeadsBy store next old new)
CameOf store at p (Err end) old new archive_now numbered page = KeepsBy store old new × EndsFor store.history at p end

-- a record of the same
pub record IsAnswered (store : Store) (at : ℕ) (p : Framed) (result : Result (Unit {0}) Ended) (old new : DiskState)
    (archive_now : ArchiveState) (numbered : NumberedState) (page : List ℕ) : Type 0 where
  pub came : CameOf store at p result old new archive_now numbered page

-- A packet has an outcome, and this was shown of its line; each image left since, with what was shown of it then, is as before it or after it.
pub record IsShown (store : Store) (p : Framed) (before after : List ℕ) (old new : DiskState) : Type 0 where
  pub outcome : Outcome Note Store
  pub step : StoreFollows store p outcome.reply outcome.next
  pub carried : Carried note_text StandsBy store (outcome ∷ []) before old new
  pub shown : List ℕ
  pub shown_is : after ≡ before ++ shown
  pub front : IsPrefix shown (note_text outcome.reply)

-- A packet was carried out and its line shown, or it ended the run.
abbrev pub CarriesOut : Store → ℕ → Framed → Result (Unit {0}) Ended → List ℕ → List ℕ → DiskState → DiskState → ArchiveState
    → NumberedState → Type 0
CarriesOut store at p (Ok done) before after old new archive_now numbered = (is : IsShown store p before after old new)
    × (is.shown ≡ note_text is.outcome.reply) × IsFollowing new archive_now numbered is.outcome.next
CarriesOut store at p (Err ends.Sink) before after old new archive_now numbered = IsShown store p before after old new
CarriesOut store at p (Err ends.Disk) before after old new archive_now numbered = (KeepsBy store old new × (after ≡ before))
    ⊎ IsShown store p before after old new
CarriesOut store at p (Err end) before after old new archive_now numbered = (KeepsBy store old new × (after ≡ before))
    × EndsFor store.history at p end

-- a record of the same
pub record IsCarriedOut (store : Store) (at : ℕ) (p : Framed) (result : Result (Unit {0}) Ended) (before after : List ℕ)
    (old new : DiskState) (archive_now : ArchiveState) (numbered : NumberedState) : Type 0 where
  pub came : CarriesOut store at p result before after old new archive_now numbered

-- ---- the run

-- Since a run began, each whole packet of the bytes pulled was carried out and its line shown, and the archive follows on its disk then.
pub record Serving (store : Store) (old now : MachineState) (archive : ArchiveState) (held : PacketsState) (numbered : NumberedState)
    (pulls : List Pull) : Type 0 where
  pub pulling : Pulling old.source now.source held
  pub outcomes : List (Outcome Note Store)
  pub run : IsRun StoreFollows store pulling.packets outcomes
  pub shown : now.sink.shown ≡ old.sink.shown ++ shown_by note_text outcomes
  pub carried : Carried note_text StandsBy store outcomes old.sink.shown old.disk now.disk
  pub following : IsFollowing now.disk archive numbered (last_state store outcomes)
  pub after_lines : All (ComesAfterLines old.source old.sink pulling.packets outcomes) pulls

-- From this disk on only the last line was pushed, or a front of it: each image left since is of the last state.
pub record IsClosing (store : Store) (outcomes : List (Outcome Note Store)) (before : List ℕ) (mid new : DiskState) : Type 0 where
  pub goes_on : GoesOn mid new
  pub images : LeavesOnly mid new (λ image beside. (part : List ℕ) × (beside ≡ before ++ (shown_by note_text outcomes ++ part))
      × StandsBy (last_state store outcomes) image)

-- A run that began from this state has ended so; with what each image left since stands along.
pub record Serves (store : Store) (end : Ended) (old new : MachineState) (pulls : List Pull) : Type 0 where
  pub ran : Ran StoreFollows (λ s. s.history) store end old.source new.source old.sink new.sink pulls
  pub mid : DiskState
  pub carried : Carried note_text StandsBy store ran.outcomes old.sink.shown old.disk mid
  pub closing : (new.disk ≡ mid) ⊎ IsClosing store ran.outcomes old.sink.shown mid new.disk
  pub steady : TellsAll end → EachStandsBy new.disk (last_state store ran.outcomes)

-- There is no next packet, or one ended the run: at the end of the input the last line is to be shown.
pub record HasGoneOver (store : Store) (end : Ended) (old new : MachineState) (archive : ArchiveState) (held : PacketsState)
    (numbered : NumberedState) (pulls : List Pull) : Type 0 where
  pub closing : end ≡ ends.Done → Serving store old new archive held numbered pulls × (first held.ended held.bytes ≡ End)
  pub serves : (end ≡ ends.Done → ⊥) → Serves store end old new pulls
