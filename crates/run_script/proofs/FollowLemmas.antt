-- A run that follows: the load, and the packets that are taken behind it.
use Rattle.std.proofs.Common.{◌≡◌, ◌⊎◌, ℕ, zero, suc, ◌≤◌, ◌++◌, false, List, [], ◌∷◌, length, take, refl, inl, inr, ap, sym, subst, ◌∙◌, arith}
use Rattle.std.proofs.lemmas.Bool.{false≢true}
use Rattle.std.proofs.lemmas.List.{append-nil}
use Rattle.std.proofs.lemmas.List.Elements.{All-nil}
use Rattle.machine_model.specs.Areas.{Bytes}
use Rattle.machine_model.specs.Causes.{Rose}
use Rattle.machine_model.specs.Pulls.{Pull}
use Rattle.machine_model.specs.Pushes.{IsPrefix}
use Rattle.machine_model.specs.States.{MachineState, SinkState, SourceState, moment}
use Rattle.machine_model.proofs.MomentLemmas.{allowed_left, goes_on_joins, joined}
use Rattle.journal_gates.specs.Crash.{KeepsBodies, KeepsPages}
use Rattle.journal_gates.specs.Spelled.{EachSpells}
use Rattle.journal_packets.specs.Packets.{IsFramed}
use Rattle.archive_entries.specs.declared.error.LoadError.{LoadError}
use Rattle.archive_entries.specs.declared.error.LoadError.TheVariants as loads
use Rattle.archive_hand.specs.Changing.{KeepsHistory}
use Rattle.model_archive.specs.Histories.{History}
use Rattle.model_archive.specs.Runs.{IsAcknowledged, Outcome, Reopens, shown_by}
use Rattle.model_archive.specs.Stands.{EachStands, Stands, bodies_of}
use Rattle.model_follow.specs.Following.{Follows, Note, note_text}
use Rattle.model_follow.specs.Following.Note.{Had, Took}
use Rattle.run_taking.specs.Following.{ComesAfterLines, EndsAt, EndsByBytes, Followed, Ran, SpellsIn, TellsAll}
use Rattle.run_taking.specs.declared.ended.Ended.{Ended}
use Rattle.run_taking.specs.declared.ended.Ended.TheVariants as ends
use Rattle.run_script.specs.Exporting.{EndsExport}
use Rattle.run_script.specs.Following.{EndsFollow, IsDecided, Replicated}
use Rattle.run_script.specs.Sampling.{EndsSample}
use Rattle.run_script.specs.Statuses.{OfPackets, status_of_ended, status_of_load}
use Rattle.run_script.specs.declared.status.Status.{Status}
use Rattle.run_script.specs.declared.status.Status.TheVariants.{NotArchive, Disk, Source, Sink, Usage, NotEmpty, Memory, Gap, Conflict, Packet}

-- ---- how it ends

-- what a status tells of the end that it comes of
pub record TellsEnded (end : Ended) (status : Status) : Type 0 where
  pub ends_so : EndsFollow status
  pub disk : status ≡ Disk → end ≡ ends.Disk
  pub source : status ≡ Source → end ≡ ends.Source
  pub sink : status ≡ Sink → end ≡ ends.Sink
  pub archive : (at : ℕ) → status ≡ NotArchive at → end ≡ ends.NotArchive at
  pub decided : (end ≡ ends.Memory) ⊎ TellsAll end → (end ≡ ends.Source → ⊥) → IsDecided status

tells_by : (end : Ended) → TellsEnded end (status_of_ended end)
tells_by ends.Done = record { ends_so = tt; disk = λ is. absurd cc; source = λ is. absurd cc; sink = λ is. absurd cc; archive = λ at is. absurd cc; decided = λ how other. tt }
tells_by (ends.NotArchive at) = record {
  ends_so = tt;
  disk = λ is. absurd cc;
  source = λ is. absurd cc;
  sink = λ is. absurd cc;
  archive = λ place is. (let same : at ≡ place = cc in ap ends.NotArchive same);
  decided = λ how other. elim how as (λ _. IsDecided (NotArchive at)) [ inl is ↦ absurd cc | inr never ↦ absurd never ];
}
tells_by ends.Disk = record {
  ends_so = tt;
  disk = λ is. refl;
  source = λ is. absurd cc;
  sink = λ is. absurd cc;
  archive = λ at is. absurd cc;
  decided = λ how other. elim how as (λ _. IsDecided Disk) [ inl is ↦ absurd cc | inr never ↦ absurd never ];
}
tells_by ends.Source = record { ends_so = tt; disk = λ is. absurd cc; source = λ is. refl; sink = λ is. absurd cc; archive = λ at is. absurd cc; decided = λ how other. absurd (other refl) }
tells_by ends.Sink = record {
  ends_so = tt;
  disk = λ is. absurd cc;
  source = λ is. absurd cc;
  sink = λ is. refl;
  archive = λ at is. absurd cc;
  decided = λ how other. elim how as (λ _. IsDecided Sink) [ inl is ↦ absurd cc | inr never ↦ absurd never ];
}
tells_by ends.Budget = record { ends_so = tt; disk = λ is. absurd cc; source = λ is. absurd cc; sink = λ is. absurd cc; archive = λ at is. absurd cc; decided = λ how other. tt }
tells_by ends.Memory = record { ends_so = tt; disk = λ is. absurd cc; source = λ is. absurd cc; sink = λ is. absurd cc; archive = λ at is. absurd cc; decided = λ how other. tt }
tells_by (ends.Gap have got) = record { ends_so = tt; disk = λ is. absurd cc; source = λ is. absurd cc; sink = λ is. absurd cc; archive = λ at is. absurd cc; decided = λ how other. tt }
tells_by (ends.Conflict number place kept got) = record {
  ends_so = tt;
  disk = λ is. absurd cc;
  source = λ is. absurd cc;
  sink = λ is. absurd cc;
  archive = λ at is. absurd cc;
  decided = λ how other. tt;
}
tells_by (ends.Packet at) = record { ends_so = tt; disk = λ is. absurd cc; source = λ is. absurd cc; sink = λ is. absurd cc; archive = λ place is. absurd cc; decided = λ how other. tt }

pub tells_ended : (status : Status) (end : Ended) → status ≡ status_of_ended end → TellsEnded end status
tells_ended status end is = subst (TellsEnded end) (sym is) (tells_by end)

-- how it ends where the archive isn't loaded
pub load_follows : (status : Status) (error : LoadError) → status ≡ status_of_load error → EndsFollow status
load_follows status loads.Failed is = rw is tt
load_follows status (loads.NotArchive at) is = rw is tt
load_follows status loads.Memory is = rw is tt

-- ---- nothing was pulled

nothing_ran : (h : History) (end : Ended) (input input_now : SourceState) (output output_now : SinkState) → EndsAt end h 0 0 false [] [] → (TellsAll end → ⊥) → (end ≡ ends.Done → ⊥) → input_now ≡ input → output_now ≡ output
    → Ran Follows (λ (x : History). x) h end input input_now output output_now []
nothing_ran h end input input_now output output_now at quiet going source sink = record {
  pulled = [];
  pulled_are = ap (λ (s : SourceState). s.left) (sym source);
  ended = false;
  ended_is = λ told. absurd (false≢true told);
  carried = [];
  behind = [];
  rest = [];
  proper = All-nil IsFramed;
  split = refl;
  outcomes = [];
  run = tt;
  ends = at;
  shown = [];
  shown_is = ap (λ (s : SinkState). s.shown) sink ∙ sym (append-nil output.shown);
  front = inl ([], refl);
  whole = λ tells. absurd (quiet tells);
  done = λ done. absurd (going done);
  after_lines = All-nil (ComesAfterLines input output [] []);
}

-- no line stands in no bytes
none_acknowledged : (outcomes : List (Outcome Note History)) → IsAcknowledged note_text outcomes [] 0
none_acknowledged outcomes = record { within = omega arith; whole = ([], refl); greatest = λ m most front. none outcomes m most front }
  where
    no_line : (note : Note) (xs ys : List ℕ) → [] ≡ (note_text note ++ xs) ++ ys → ⊥
    no_line (Had number) xs ys is = cc
    no_line (Took number) xs ys is = cc

    none : (all : List (Outcome Note History)) (m : ℕ) → m ≤ length all → IsPrefix (shown_by note_text (take m all)) [] → m ≤ 0
    none all zero most front = omega arith
    none [] (suc m) most front = absurd (omega (arith, most))
    none (outcome ∷ all) (suc m) most front = absurd (no_line outcome.reply (shown_by note_text (take m all)) front.0 front.1)

-- an image beside no line of the run, that has the history from which it began
reopens_early : (stands : History → Bytes → Type 0) (h : History) (outcomes : List (Outcome Note History)) (before : List ℕ) (image : Bytes) (beside : List ℕ) → beside ≡ before → stands h image
    → Reopens note_text stands h outcomes before image beside
reopens_early stands h outcomes before image beside is there = record {
  shown = [];
  shown_is = is ∙ sym (append-nil before);
  k = 0;
  acknowledged = none_acknowledged outcomes;
  j = 0;
  one_more = inl refl;
  reached = omega arith;
  holds = there;
}

-- which end an error of the load is
load_ended : (status : Status) (error : LoadError) → status ≡ status_of_load error → ((at : ℕ) → error ≡ loads.NotArchive at → ⊥)
    → (end : Ended) × ((status ≡ status_of_ended end) × EndsAt end [] 0 0 false [] [] × (TellsAll end → ⊥) × (end ≡ ends.Done → ⊥) × ((h : History) → EndsAt end h 0 0 false [] []))
load_ended status loads.Failed is never = (ends.Disk, (is, tt, λ tells. tells, λ same. cc, λ h. tt))
load_ended status (loads.NotArchive at) is never = absurd (never at refl)
load_ended status loads.Memory is never = (ends.Memory, (is, tt, λ tells. tells, λ same. cc, λ h. tt))

-- the archive wasn't loaded
pub not_followed : (h : History) (status : Status) (error : LoadError) (old new : MachineState) → status ≡ status_of_load error → ((at : ℕ) → error ≡ loads.NotArchive at → ⊥) → new.source ≡ old.source → new.sink ≡ old.sink
    → old.disk.now.beside ≡ old.sink.shown → KeepsPages old.disk new.disk → (EachSpells old.disk (bodies_of h) → KeepsBodies (bodies_of h) old.disk new.disk) → (EachStands old.disk h → KeepsHistory h old.disk new.disk)
    → Replicated h status old new []
unfolding nothing_ran
not_followed h status error old new is never source sink beside pages bodies keeps =
    let (end, (same, early, quiet, going, at)) = load_ended status error is never in
    record {
      end = end;
      status_is = same;
      ran = nothing_ran h end old.source new.source old.sink new.sink (at h) quiet going source sink;
      goes_on = pages.goes_on;
      durable = λ image other left. inl ((pages.images image other left).3 ∙ beside);
      spelled = λ each image other left.
          let was = (bodies each).images image other left in
          reopens_early SpellsIn h [] old.sink.shown image other (was.1 ∙ beside) was.0;
      images = λ each image other left.
          let was = (keeps each).images image other left in
          reopens_early Stands h [] old.sink.shown image other (was.1 ∙ beside) was.0;
      last_spelled = λ tells. absurd (quiet tells);
      last = λ each tells. absurd (quiet tells);
    }

-- ---- it was loaded

-- it was loaded, and packets were taken behind that
pub is_followed : (h : History) (end : Ended) (status : Status) (old mid new : MachineState) (pulls : List Pull) → status ≡ status_of_ended end → mid.source ≡ old.source → mid.sink ≡ old.sink → old.disk.now.beside ≡ old.sink.shown
    → KeepsPages old.disk mid.disk → (EachSpells old.disk (bodies_of h) → KeepsBodies (bodies_of h) old.disk mid.disk) → (EachStands old.disk h → KeepsHistory h old.disk mid.disk)
    → Followed h end mid new pulls → Replicated h status old new pulls
is_followed h end status old mid new pulls is source sink beside pages bodies keeps followed =
    let F : SourceState → SinkState → Type 0 = λ x y. Followed h end (record { source = x; sink = y; disk = mid.disk }) new pulls in
    let f : Followed h end (record { source = old.source; sink = old.sink; disk = mid.disk }) new pulls = subst (λ (x : SourceState). F x old.sink) source (subst (λ (y : SinkState). F mid.source y) sink followed) in
    let outcomes = f.ran.outcomes in
    let before = old.sink.shown in
    record {
      end = end;
      status_is = is;
      ran = f.ran;
      goes_on = goes_on_joins pages.goes_on f.goes_on;
      durable = joined (λ image other. (other ≡ before) ⊎ Reopens note_text SpellsIn h outcomes before image other) pages.goes_on (λ image other left. inl ((pages.images image other left).3 ∙ beside))
          f.goes_on (λ image other left. inr (f.spelled image other left));
      spelled = λ each. (
          let kept = bodies each in
          joined (Reopens note_text SpellsIn h outcomes before) kept.goes_on
          (λ image other left. let was = kept.images image other left in reopens_early SpellsIn h outcomes before image other (was.1 ∙ beside) was.0) f.goes_on f.spelled);
      images = λ each. (
          let kept = keeps each in
          joined (Reopens note_text Stands h outcomes before) kept.goes_on
          (λ image other left. let was = kept.images image other left in reopens_early Stands h outcomes before image other (was.1 ∙ beside) was.0) f.goes_on
          (f.images (stands_still each)));
      last_spelled = f.last_spelled;
      last = λ each. f.last (stands_still each);
    }
  where
    stands_still : EachStands old.disk h → EachStands mid.disk h
    stands_still each image allowed = ((keeps each).images image mid.disk.now.beside (allowed_left mid.disk (moment old.disk) image allowed)).0

-- ---- statuses that speak of packets

-- neither a sample nor an export ends so
pub sample_no_packets : (status : Status) → EndsSample status ⊎ (((at : ℕ) × (status ≡ NotArchive at)) ⊎ ((n : ℕ) × (status ≡ NotEmpty n))) → OfPackets status → ⊥
sample_no_packets status (inl ends_so) of = go status ends_so of
  where
    go : (s : Status) → EndsSample s → OfPackets s → ⊥
    go (Gap have got) ends_so of = ends_so
    go (Conflict number place kept got) ends_so of = ends_so
    go (Packet at) ends_so of = ends_so
    go other ends_so of = of
sample_no_packets status (inr (inl (at, is))) of = subst OfPackets is of
sample_no_packets status (inr (inr (n, is))) of = subst OfPackets is of

pub export_no_packets : (status : Status) → EndsExport status → OfPackets status → ⊥
export_no_packets (Gap have got) ends_so of = ends_so
export_no_packets (Conflict number place kept got) ends_so of = ends_so
export_no_packets (Packet at) ends_so of = ends_so
export_no_packets other ends_so of = of

-- nor does a run whose words were refused, or whose archive wasn't loaded
pub refused_no_packets : (X : Type 0) (status : Status) → (status ≡ Memory) ⊎ ((status ≡ Usage) × X) → OfPackets status → ⊥
refused_no_packets X status (inl is) of = subst OfPackets is of
refused_no_packets X status (inr is) of = subst OfPackets is.0 of

pub load_no_packets : (status : Status) (error : LoadError) → status ≡ status_of_load error → OfPackets status → ⊥
load_no_packets status loads.Failed is of = subst OfPackets is of
load_no_packets status (loads.NotArchive at) is of = subst OfPackets is of
load_no_packets status loads.Memory is of = subst OfPackets is of

-- ---- behind the load

-- where nothing is wrong, the bytes decide
pub is_decided : (status : Status) (end : Ended) (old new : MachineState) → status ≡ status_of_ended end → EndsByBytes end old new → (Rose old.disk.faults new.disk.faults → ⊥) → (Rose old.source.faults new.source.faults → ⊥)
    → (Rose old.sink.faults new.sink.faults → ⊥) → (end ≡ ends.Source → ⊥) → IsDecided status
is_decided status end old new is by disk source sink other = (tells_ended status end is).decided (by disk source sink) other
