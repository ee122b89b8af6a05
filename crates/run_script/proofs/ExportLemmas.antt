-- An export: the load, and the packets that are shown behind it.
use Rattle.std.proofs.Common.{◌≡◌, ◌⊎◌, ℕ, ◌<◌, List, [], length, None, refl, inl, inr, ap, sym, subst, ◌∙◌}
use Rattle.std.proofs.lemmas.List.{append-nil}
use Rattle.machine_model.specs.Areas.{Bytes}
use Rattle.machine_model.specs.Calls.{Syncs}
use Rattle.machine_model.specs.Images.{MayLeave}
use Rattle.machine_model.specs.Pushes.{IsPrefix, OnlyShows}
use Rattle.machine_model.specs.States.{DiskState, SinkState, moment}
use Rattle.machine_model.proofs.MomentLemmas.{allowed_left, goes_on_joins, goes_on_same, joined, left_now}
use Rattle.journal_gates.specs.Crash.{KeepsBodies, KeepsPages}
use Rattle.journal_gates.specs.Records.{new_bytes}
use Rattle.journal_gates.specs.Spelled.{EachSpells, Spells}
use Rattle.journal_gates.proofs.InStepLemmas.{step_spells}
use Rattle.journal_packets.specs.Streams.{export, stream}
use Rattle.model_archive.specs.Histories.{History}
use Rattle.model_archive.specs.Stands.{EachStands, Stands, bodies_of}
use Rattle.model_archive.proofs.StandsLemmas.{spells_one_history}
use Rattle.archive_entries.specs.declared.error.LoadError.{LoadError}
use Rattle.archive_entries.specs.declared.error.LoadError.TheVariants as loads
use Rattle.archive_hand.specs.Changing.{KeepsHistory}
use Rattle.archive_hand.specs.States.{ArchiveState, AreInStepBy}
use Rattle.archive_hand.specs.Stored.{Store}
use Rattle.run_follow.specs.Exporting.{IsJournalOf, Shows}
use Rattle.run_follow.specs.declared.error.ExportError.{ExportError}
use Rattle.run_follow.specs.declared.error.ExportError.TheVariants as exports
use Rattle.run_follow.proofs.BesideLemmas.{prefix_join, same_prefix, shows_join}
use Rattle.run_script.specs.Exporting.{EndsExport, Exported, HasPagesOf, LeavesAlone}
use Rattle.run_script.specs.Headline.{LoadsAs}
use Rattle.run_script.specs.Statuses.{status_of_export, status_of_load}
use Rattle.run_script.specs.declared.status.Status.{Status}
use Rattle.run_script.specs.declared.status.Status.TheVariants.{Done, NotArchive, Disk, Sink, Memory}

-- ---- how it ends

-- what a status tells of the error that it comes of
pub record TellsExport (error : ExportError) (status : Status) : Type 0 where
  pub ends : EndsExport status
  pub undone : status ≡ Done → ⊥
  pub disk : status ≡ Disk → error ≡ exports.Disk
  pub sink : status ≡ Sink → error ≡ exports.Sink
  pub archive : (at : ℕ) → status ≡ NotArchive at → error ≡ exports.NotArchive at
  pub memory : (error ≡ exports.Disk → ⊥) → (error ≡ exports.Sink → ⊥) → ((at : ℕ) → error ≡ exports.NotArchive at → ⊥) → status ≡ Memory

tells_by : (error : ExportError) → TellsExport error (status_of_export error)
tells_by exports.Disk = record { ends = tt; undone = λ is. cc; disk = λ is. refl; sink = λ is. absurd cc; archive = λ at is. absurd cc; memory = λ disk sink archive. absurd (disk refl) }
tells_by exports.Sink = record { ends = tt; undone = λ is. cc; disk = λ is. absurd cc; sink = λ is. refl; archive = λ at is. absurd cc; memory = λ disk sink archive. absurd (sink refl) }
tells_by (exports.NotArchive at) = record {
  ends = tt;
  undone = λ is. cc;
  disk = λ is. absurd cc;
  sink = λ is. absurd cc;
  archive = λ place is. (let same : at ≡ place = cc in ap exports.NotArchive same);
  memory = λ disk sink archive. absurd (archive at refl);
}
tells_by exports.Memory = record { ends = tt; undone = λ is. cc; disk = λ is. absurd cc; sink = λ is. absurd cc; archive = λ at is. absurd cc; memory = λ disk sink archive. refl }

pub tells_export : (status : Status) (error : ExportError) → status ≡ status_of_export error → TellsExport error status
tells_export status error is = subst (TellsExport error) (sym is) (tells_by error)

-- how an export ends where the archive isn't loaded
pub load_tells : (status : Status) (error : LoadError) → status ≡ status_of_load error → EndsExport status
load_tells status loads.Failed is = rw is tt
load_tells status (loads.NotArchive at) is = rw is tt
load_tells status loads.Memory is = rw is tt

-- ---- what is left alone

-- where nothing is done, the pages are those that were allowed
pub pages_still : (d : DiskState) → KeepsPages d d
pages_still d = record {
  goes_on = goes_on_same d;
  images = left_now d (λ image beside. (was : Bytes) × MayLeave d.now was × (image.pages ≡ was.pages) × (beside ≡ d.now.beside)) (λ image allowed. (image, allowed, refl, refl));
}

-- a load leaves alone what there is
pub load_spares : (old new : DiskState) (before after : List ℕ) → old.now.beside ≡ before → after ≡ before → KeepsPages old new → (new_bytes < length old.holds.journal → Syncs old new)
    → LeavesAlone old new before after
load_spares old new before after is same pages longer = record {
  goes_on = pages.goes_on;
  pages = λ image beside left.
      let was = pages.images image beside left in
      let here : beside ≡ before = was.3 ∙ is in
      ((was.0, was.1, was.2), same_prefix before beside (sym here), same_prefix beside after (here ∙ sym same));
  longer = λ long.
      let syncs = longer long in (
        syncs.holds,
        record {
          goes_on = syncs.goes_on;
          grows = same_prefix before after (sym same);
          since = λ image beside left.
              let was = syncs.during image beside left in
              let here : beside ≡ before = was.1 ∙ is in
              (was.0, same_prefix before beside (sym here), same_prefix beside after (here ∙ sym same));
        },
      );
}

-- and so do pushes behind it
pub shows_spares : (old mid new : DiskState) (before after : List ℕ) → LeavesAlone old mid before before → new.holds ≡ mid.holds → OnlyShows mid new before after → LeavesAlone old new before after
shows_spares old mid new before after one holds shows = record {
  goes_on = goes_on_joins one.goes_on shows.goes_on;
  pages = joined (λ image beside. HasPagesOf old image × IsPrefix before beside × IsPrefix beside after) one.goes_on
      (λ image beside left. let was = one.pages image beside left in (was.0, was.1, prefix_join beside before after was.2 shows.grows))
      shows.goes_on
      (λ image beside left.
      let now = shows.since image beside left in
      let was = one.pages image mid.now.beside (allowed_left mid (moment old) image now.0) in
      (was.0, now.1, now.2));
  longer = λ long.
      let was = one.longer long in
      (holds ∙ was.0, shows_join old mid new before before after was.1 shows);
}

-- ---- what is shown

-- nothing was shown, since the archive wasn't loaded
pub not_exported : (h : History) (from : ℕ) (status : Status) (output output_now : SinkState) (old new : DiskState) → (status ≡ Done → ⊥) → old.now.beside ≡ output.shown → output_now ≡ output
    → KeepsPages old new → (EachSpells old (bodies_of h) → KeepsBodies (bodies_of h) old new) → (EachStands old h → KeepsHistory h old new) → Exported h from status output output_now old new
not_exported h from status output output_now old new never is same pages bodies keeps = record {
  shown = [];
  shown_is = ap (λ (s : SinkState). s.shown) same ∙ sym (append-nil output.shown);
  front = (stream (export from (bodies_of h)), refl);
  whole = λ done. absurd (never done);
  goes_on = pages.goes_on;
  durable = λ image beside left. inl ((pages.images image beside left).3 ∙ is);
  spelled = λ each image beside left. ((bodies each).images image beside left).0;
  images = λ each image beside left. ((keeps each).images image beside left).0;
}

-- it was loaded, and then only read and shown
pub is_exported : (h : History) (from : ℕ) (status : Status) (done : Type 0) (output between output_now : SinkState) (old mid new : DiskState) → (status ≡ Done → done) → old.now.beside ≡ output.shown → between ≡ output
    → KeepsPages old mid → (EachSpells old (bodies_of h) → KeepsBodies (bodies_of h) old mid) → (EachStands old h → KeepsHistory h old mid) → EachSpells mid (bodies_of h)
    → Shows (bodies_of h) from done between output_now mid new → Exported h from status output output_now old new
is_exported h from status done output between output_now old mid new well is same pages bodies keeps each shows =
    let s : Shows (bodies_of h) from done output output_now mid new = subst (λ (t : SinkState). Shows (bodies_of h) from done t output_now mid new) same shows in
    let since = s.beside.since in
    record {
      shown = s.shown;
      shown_is = s.shown_is;
      front = s.front;
      whole = λ is_done. s.whole (well is_done);
      goes_on = goes_on_joins pages.goes_on s.beside.goes_on;
      durable = joined (λ image beside. (beside ≡ output.shown) ⊎ Spells image.journal (bodies_of h)) pages.goes_on (λ image beside left. inl ((pages.images image beside left).3 ∙ is)) s.beside.goes_on
          (λ image beside left. inr (each image (since image beside left).0));
      spelled = λ start. joined (λ image beside. Spells image.journal (bodies_of h)) pages.goes_on (λ image beside left. ((bodies start).images image beside left).0) s.beside.goes_on
          (λ image beside left. each image (since image beside left).0);
      images = λ start. joined (λ image beside. Stands h image) pages.goes_on (λ image beside left. ((keeps start).images image beside left).0) s.beside.goes_on
          (λ image beside left. ((keeps start).images image mid.now.beside (allowed_left mid (moment old) image (since image beside left).0)).0);
    }

-- ---- what was loaded

-- behind a load the journal is that of the history for which it took the bytes, and each image spells its entries
pub loaded_journal : (h : History) (old new : DiskState) (a : ArchiveState) → MayLeave new.now new.holds
    → (found : Store) × (AreInStepBy new a found × Spells old.holds.journal (bodies_of found.history) × (found.pages ≡ old.holds.pages) × (found.asked ≡ []) × (found.job ≡ None)) → LoadsAs h old.holds
    → IsJournalOf h new.holds.journal a.end × EachSpells new (bodies_of h)
loaded_journal h old new a allowed (s, (in_step, spelled, pages, unasked, idle)) begins =
    let one : s.history ≡ h = spells_one_history old.holds.journal s.history h spelled in_step.stands.loadable begins.spelled begins.loadable in
    let each : EachSpells new (bodies_of s.history) = step_spells new a.end (bodies_of s.history) in_step.journal in
    let of : IsJournalOf s.history new.holds.journal a.end = record { spelled = each new.holds allowed; loadable = in_step.stands.loadable; ends = in_step.journal.end_is } in
    subst (λ (x : History). IsJournalOf x new.holds.journal a.end × EachSpells new (bodies_of x)) one (of, each)
