-- How a run begins, and one that ends before it begins.
use Rattle.std.proofs.Common.{◌≡◌, ℕ, ◌≤◌, false, List, [], None, inl, inr, refl, ap, sym, subst, ◌∙◌, arith}
use Rattle.std.proofs.lemmas.Bool.{false≢true}
use Rattle.std.proofs.lemmas.List.{append-nil}
use Rattle.std.proofs.lemmas.List.Elements.{All-nil}
use Rattle.machine_model.specs.Areas.{Bytes}
use Rattle.machine_model.specs.Calls.{OnlyReads}
use Rattle.machine_model.specs.Images.{MayLeave}
use Rattle.machine_model.specs.States.{DiskState, MachineState, SinkState, SourceState}
use Rattle.journal_bodies.specs.Numbered.{AreIn, NumberedState}
use Rattle.journal_packets.specs.Packets.{IsFramed}
use Rattle.journal_packets.specs.Reading.{PacketsState, fresh}
use Rattle.journal_gates.specs.Spelled.{Spells}
use Rattle.journal_gates.proofs.InStepLemmas.{step_spells}
use Rattle.model_archive.specs.Holding.{HoldsPlans}
use Rattle.model_archive.specs.Standing.{Carried}
use Rattle.model_archive.specs.Stands.{EachStands, bodies_of}
use Rattle.archive_hand.specs.Changing.{KeepsBy}
use Rattle.archive_hand.specs.States.{ArchiveState, AreInStepBy}
use Rattle.archive_hand.specs.Stored.{StandsBy, Store}
use Rattle.archive_hand.proofs.ByReadsLemmas.{keeps_reads}
use Rattle.model_follow.specs.Following.{note_text}
use Rattle.run_taking.specs.Following.{ComesAfterLines, EndsAt, EndsByBytes, Followed, IsLater, MayEnd, TellsAll}
use Rattle.run_taking.specs.Serving.{EndsARun, Serves, Serving}
use Rattle.run_taking.specs.declared.ended.Ended.{Ended}
use Rattle.run_taking.specs.declared.ended.Ended.TheVariants as ends
use Rattle.run_taking.proofs.PacketLemmas.{in_step_read}
use Rattle.run_taking.proofs.StandLemmas.{IsHeld, followed_by}

-- nothing was carried out
pub none_carried : (s : Store) (before : List ℕ) (old new : DiskState) → old.now.beside ≡ before → KeepsBy s old new → Carried note_text StandsBy s [] before old new
none_carried s before old new beside keeps = record {
  goes_on = keeps.goes_on;
  images = λ image other left. let was = keeps.images image other left in ([], was.1 ∙ beside ∙ sym (append-nil before), (was.0, refl));
}

pub serving_start : (s : Store) (old now : MachineState) (archive : ArchiveState) (held : PacketsState) (numbered : NumberedState) → held ≡ fresh → now.source ≡ old.source → now.sink ≡ old.sink → old.disk.now.beside ≡ old.sink.shown
    → OnlyReads old.disk now.disk → now.disk.bytes_read.pages ≡ old.disk.bytes_read.pages → AreInStepBy old.disk archive s → s.job ≡ None → AreIn old.disk.holds.journal (bodies_of s.history) numbered → Serving s old now archive held numbered []
serving_start s old now archive held numbered new source sink beside reads unread in_step idle bodies = record {
  pulling = record {
    pulled = [];
    pulled_are = ap (λ x. x.left) (sym source);
    told = λ told. absurd (false≢true (ap (λ (r : PacketsState). r.ended) (sym new) ∙ told));
    packets = [];
    reads = record { proper = All-nil IsFramed; split = ap (λ (r : PacketsState). r.bytes) (sym new); before = ap (λ (r : PacketsState). r.passed) new };
  };
  outcomes = [];
  run = tt;
  shown = ap (λ x. x.shown) sink ∙ sym (append-nil old.sink.shown);
  carried = none_carried s old.sink.shown old.disk now.disk beside (keeps_reads old.disk now.disk archive s in_step reads);
  following = record {
    in_step = in_step_read old.disk now.disk archive s reads unread in_step;
    idle = idle;
    bodies = subst (λ (b : Bytes). AreIn b.journal (bodies_of s.history) numbered) (sym (ap (λ (d : DiskState). d.holds) reads)) bodies;
  };
  after_lines = All-nil (ComesAfterLines old.source old.sink [] []);
}

-- the run ended before anything was pulled
pub not_begun : (s : Store) (end : Ended) (old new : MachineState) → EndsAt end s.history 0 0 false [] [] → (TellsAll end → ⊥) → (end ≡ ends.Done → ⊥) → new.source ≡ old.source → new.sink ≡ old.sink → KeepsBy s old.disk new.disk → old.disk.now.beside ≡ old.sink.shown
    → Serves s end old new []
not_begun s end old new at quiet going source sink keeps beside = record {
  ran = record {
    pulled = [];
    pulled_are = ap (λ x. x.left) (sym source);
    ended = false;
    ended_is = λ told. absurd (false≢true told);
    carried = [];
    behind = [];
    rest = [];
    proper = All-nil IsFramed;
    split = refl;
    outcomes = [];
    run = tt;
    ends = at;
    shown = [];
    shown_is = ap (λ x. x.shown) sink ∙ sym (append-nil old.sink.shown);
    front = inl ([], refl);
    whole = λ tells. absurd (quiet tells);
    done = λ done. absurd (going done);
    after_lines = All-nil (ComesAfterLines old.source old.sink [] []);
  };
  mid = new.disk;
  carried = none_carried s old.sink.shown old.disk new.disk beside keeps;
  closing = inl refl;
  steady = λ tells. absurd (quiet tells);
}

-- where each image stands for the history, what is stored does
pub held_by : (d : DiskState) (archive : ArchiveState) (s : Store) → MayLeave d.now d.holds → AreInStepBy d archive s → EachStands d s.history → IsHeld s
held_by d archive s allowed in_step stands = record {
  loadable = in_step.stands.loadable;
  held = subst (λ (pages : List ℕ). HoldsPlans s.history pages) in_step.pages_are (stands d.holds allowed).held;
}

-- so a run that ended before anything was pulled is one
pub followed_none : (s : Store) (end : Ended) (old new : MachineState) (archive : ArchiveState) → EndsAt end s.history 0 0 false [] [] → (TellsAll end → ⊥) → (end ≡ ends.Done → ⊥) → new.source ≡ old.source → new.sink ≡ old.sink → OnlyReads old.disk new.disk
    → old.disk.now.beside ≡ old.sink.shown → MayLeave old.disk.now old.disk.holds → AreInStepBy old.disk archive s → Followed s.history end old new []
followed_none s end old new archive at quiet going source sink reads beside allowed in_step =
    followed_by s end old new [] (held_by old.disk archive s allowed in_step) (not_begun s end old new at quiet going source sink (keeps_reads old.disk new.disk archive s in_step reads) beside)

-- what a load found goes on to be found
pub spelled_now : (d : DiskState) (archive : ArchiveState) (s : Store) → MayLeave d.now d.holds → AreInStepBy d archive s → Spells d.holds.journal (bodies_of s.history)
spelled_now d archive s allowed in_step = step_spells d archive.end (bodies_of s.history) in_step.journal d.holds allowed

-- ---- how it may end

-- calls of the disk alone
pub later_alone : (old new : MachineState) → new.source ≡ old.source → new.sink ≡ old.sink → old.disk.faults ≤ new.disk.faults → IsLater old new
later_alone old new source sink disk = record {
  source = omega (arith, ap (λ (s : SourceState). s.faults) source);
  sink = omega (arith, ap (λ (s : SinkState). s.faults) sink);
  disk = disk;
}

-- the journal of a run is an archive's
pub is_archive : (end : Ended) → EndsARun end → (at : ℕ) → end ≡ ends.NotArchive at → ⊥
is_archive end of_run at is = subst EndsARun is of_run

pub by_bytes : (end : Ended) (old new : MachineState) → MayEnd end old new → ((at : ℕ) → end ≡ ends.NotArchive at → ⊥) → EndsByBytes end old new
by_bytes ends.Done old new may fine = λ disk source sink. inr tt
by_bytes (ends.NotArchive at) old new may fine = λ disk source sink. absurd (fine at refl)
by_bytes ends.Disk old new may fine = λ disk source sink. absurd (disk (may.disk refl))
by_bytes ends.Source old new may fine = λ disk source sink. inr tt
by_bytes ends.Sink old new may fine = λ disk source sink. absurd (sink (may.sink refl))
by_bytes ends.Budget old new may fine = λ disk source sink. inr tt
by_bytes ends.Memory old new may fine = λ disk source sink. inl refl
by_bytes (ends.Gap have got) old new may fine = λ disk source sink. inr tt
by_bytes (ends.Conflict number place kept got) old new may fine = λ disk source sink. inr tt
by_bytes (ends.Packet at) old new may fine = λ disk source sink. inr tt
