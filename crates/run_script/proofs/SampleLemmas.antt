-- A run over the commands of a sample: the load, the commands, and the two lines.
use Rattle.std.proofs.Common.{◌≡◌, ◌⊎◌, ℕ, List, [], ◌∷◌, ◌++◌, length, map, Result, Ok, Err, refl, inl, inr, ap, sym, subst, ◌∙◌, arith, append_assoc}
use Rattle.std.proofs.lemmas.List.{append-nil, append_cancel_left}
use Rattle.std.proofs.lemmas.List.Elements.{All-nil}
use Rattle.machine_model.specs.Areas.{Bytes}
use Rattle.machine_model.specs.Moments.{GoesOn, LeavesOnly}
use Rattle.machine_model.specs.Pushes.{IsPrefix, IsSameBeside, OnlyShows}
use Rattle.machine_model.specs.States.{DiskState, SinkState}
use Rattle.machine_model.proofs.MomentLemmas.{joined, goes_on_joins}
use Rattle.base_commands.specs.declared.command.Item.TheVariants as items
use Rattle.journal_gates.specs.Spelled.{Spells}
use Rattle.base_sample.specs.Samples.{sample_of}
use Rattle.base_sample.proofs.LawLemmas.{documents}
use Rattle.pages_sublists.specs.declared.why.Damage.{Damage}
use Rattle.model_archive.specs.Histories.{History}
use Rattle.model_archive.specs.Holding.{HoldsPlan}
use Rattle.model_archive.specs.Runs.{Outcome, IsRun}
use Rattle.model_archive.specs.Standing.{last_state}
use Rattle.model_archive.specs.Stands.{Stands, EachStands, bodies_of}
use Rattle.model_archive.specs.Steps.{Reply, Step}
use Rattle.model_archive.specs.Worlds.{World, world_of}
use Rattle.model_archive.proofs.OutcomeLemmas.{run_on}
use Rattle.model_archive.proofs.RunLemmas.{state_after_all}
use Rattle.archive_replies.specs.Tallies.{sample_text}
use Rattle.archive_hand.specs.Changing.{KeepsHistory}
use Rattle.archive_hand.specs.States.{ArchiveState}
use Rattle.archive_hand.proofs.StandingLemmas.{in_step_stands}
use Rattle.run_sample.specs.Filling.{EndsFilled, Fills, IsFilled}
use Rattle.run_sample.specs.declared.error.FillError.{FillError}
use Rattle.run_sample.specs.declared.error.FillError.TheVariants as fills
use Rattle.run_sample.specs.declared.report.Report.{Report}
use Rattle.run_sample.proofs.LawLemmas.{reports}
use Rattle.run_script.specs.Causes.{IsLoaded}
use Rattle.run_script.specs.Sampling.{EndsSample, Reached, Sampled}
use Rattle.run_script.specs.Statuses.{status_of_fill}
use Rattle.run_script.specs.declared.status.Status.{Status}
use Rattle.run_script.specs.declared.status.Status.TheVariants.{Done, Disk, Sink, Damaged, Memory}
use Rattle.run_script.proofs.OutcomeLemmas.{same_images}
use Rattle.run_script.proofs.ServeLemmas.{IsUndone}

-- what was left while the archive was loaded
load_reaches : (outcomes : List (Outcome Reply World)) (before : List ℕ) (old new : DiskState) → old.now.beside ≡ before → KeepsHistory [] old new → LeavesOnly old new (Reached outcomes before)
load_reaches outcomes before old new beside keeps = λ image other left.
    let was = keeps.images image other left in
    record { j = 0; within = omega arith; holds = was.0; shown = inl (was.1 ∙ beside) }

-- and while the commands were carried out behind it
filled_reaches : (outcomes : List (Outcome Reply World)) (before : List ℕ) (began old new : DiskState) → IsLoaded before began old → Fills (world_of []) outcomes old new → EachStands began [] → LeavesOnly began new (Reached outcomes before)
filled_reaches outcomes before began old new loaded filled start =
    joined (Reached outcomes before) loaded.2 (load_reaches outcomes before began old loaded.0 (loaded.3 start)) filled.goes_on (λ image other left.
    let was = filled.images image other left in
    record { j = was.0.0; within = was.0.1; holds = was.0.2; shown = inl (was.1 ∙ loaded.1) })

-- where each image stands for the last state, what is left while the lines are shown does
shown_reaches : (outcomes : List (Outcome Reply World)) (before after : List ℕ) (old new : DiskState) → EachStands old (last_state (world_of []) outcomes).history → OnlyShows old new before after → LeavesOnly old new (Reached outcomes before)
shown_reaches outcomes before after old new each shows = λ image beside left.
    record { j = length outcomes; within = omega arith; holds = rw (state_after_all (world_of []) outcomes) (each image (shows.since image beside left).0); shown = inr refl }

-- ---- the ends of a run

-- a run that showed nothing
unshown : (seed count : ℕ) (status : Status) (output output_now : SinkState) (old new : DiskState) (outcomes : List (Outcome Reply World)) → IsRun Step (world_of []) (map items.Command (sample_of seed count)) outcomes
    → output_now ≡ output → IsUndone status → GoesOn old new → (EachStands old [] → LeavesOnly old new (Reached outcomes output.shown)) → Sampled seed count status output output_now old new
unshown seed count status output output_now old new outcomes run same undone on images =
    let has = reports seed count (world_of []) outcomes run in
    record {
      outcomes = outcomes;
      run = run;
      report = has.0;
      report_is = has.1;
      shown = [];
      shown_is = ap (λ (s : SinkState). s.shown) same ∙ sym (append-nil output.shown);
      front = (sample_text count has.0.tally has.0.verdict, refl);
      whole = λ is. absurd (subst IsUndone is undone);
      goes_on = on;
      images = images;
      last = λ is. absurd (subst IsUndone is undone);
      undamaged = λ damage is. subst IsUndone is undone;
    }

-- the archive wasn't loaded
pub not_loaded : (seed count : ℕ) (status : Status) (output output_now : SinkState) (old new : DiskState) → IsUndone status → old.now.beside ≡ output.shown → output_now ≡ output → GoesOn old new → (EachStands old [] → KeepsHistory [] old new)
    → Sampled seed count status output output_now old new
not_loaded seed count status output output_now old new undone beside same going keeps =
    let on = run_on (world_of []) (map items.Command (sample_of seed count)) (record { history = tt; job = tt }) (documents seed count) in
    unshown seed count status output output_now old new on.0 on.1 same undone going (λ each. load_reaches on.0 output.shown old new beside (keeps each))

-- the commands were carried out up to an error, or there was no memory for the lines
pub filled_unshown : (seed count : ℕ) (status : Status) (result : Result Report FillError) (output output_now : SinkState) (began old new : DiskState) (archive_now : ArchiveState) → IsUndone status → IsLoaded output.shown began old → output_now ≡ output
    → IsFilled (world_of []) (sample_of seed count) result old new archive_now → Sampled seed count status output output_now began new
filled_unshown seed count status result output output_now began old new archive_now undone loaded same filled =
    unshown seed count status output output_now began new filled.outcomes filled.run same undone (goes_on_joins loaded.2 filled.fills.goes_on) (filled_reaches filled.outcomes output.shown began old new loaded filled.fills)

pub fill_undone : (outcomes : List (Outcome Reply World)) (new : DiskState) (archive_now : ArchiveState) (error : FillError) → EndsFilled (world_of []) outcomes new archive_now (Err error) → IsUndone (status_of_fill error)
fill_undone outcomes new archive_now (fills.Damaged damage) ends = ends
fill_undone outcomes new archive_now error ends = tt

-- the lines were shown, or a front of them
pub filled_shown : (seed count : ℕ) (status : Status) (report : Report) (output output_now : SinkState) (began old mid new : DiskState) (archive_now : ArchiveState) (page : List ℕ) → IsLoaded output.shown began old
    → IsFilled (world_of []) (sample_of seed count) (Ok report) old mid archive_now → page ≡ sample_text count report.tally report.verdict → OnlyShows mid new output.shown output_now.shown → IsSameBeside mid new
    → IsPrefix output_now.shown (output.shown ++ page) → (status ≡ Done → output_now.shown ≡ output.shown ++ page) → ((damage : Damage) → status ≡ Damaged damage → ⊥)
    → Sampled seed count status output output_now began new
filled_shown seed count status report output output_now began old mid new archive_now page loaded filled text shows same front whole undamaged =
    let outcomes = filled.outcomes in
    let each : EachStands mid (last_state (world_of []) outcomes).history = in_step_stands mid archive_now (last_state (world_of []) outcomes) filled.ends.1 in
    let on = goes_on_joins loaded.2 filled.fills.goes_on in
    record {
      outcomes = outcomes;
      run = filled.run;
      report = report;
      report_is = filled.ends.0;
      shown = shows.grows.0;
      shown_is = shows.grows.1;
      front = (
        front.0,
        sym text
            ∙ append_cancel_left output.shown page (shows.grows.0 ++ front.0) (front.1 ∙ ap (λ (l : List ℕ). l ++ front.0) shows.grows.1 ∙ append_assoc output.shown shows.grows.0 front.0),
      );
      whole = λ is. append_cancel_left output.shown shows.grows.0 (sample_text count report.tally report.verdict) (sym shows.grows.1 ∙ whole is ∙ ap (λ (l : List ℕ). output.shown ++ l) text);
      goes_on = goes_on_joins on shows.goes_on;
      images = λ start. joined (Reached outcomes output.shown) on (filled_reaches outcomes output.shown began old mid loaded filled.fills start) shows.goes_on (shown_reaches outcomes output.shown output_now.shown mid new each shows);
      last = λ is image allowed. each image (same_images mid new same image allowed);
      undamaged = undamaged;
    }

-- a journal that spells no entry stands for none
pub empty_stands : (h : History) (image : Bytes) → length h ≡ 0 → Spells image.journal (bodies_of h) → Stands [] image
empty_stands [] image none spelled = record { spelled = spelled; loadable = tt; held = record { apart = tt; each = All-nil (λ stored. HoldsPlan [] image.pages stored.plan) } }
empty_stands (entry ∷ h) image none spelled = absurd (omega (arith, none))

-- how a run over a sample ends that had no fault
pub sample_completes : (status : Status) → EndsSample status → (status ≡ Disk → ⊥) → (status ≡ Sink → ⊥) → ((damage : Damage) → status ≡ Damaged damage → ⊥) → (status ≡ Done) ⊎ (status ≡ Memory)
sample_completes Done ends disk sink undamaged = inl refl
sample_completes Memory ends disk sink undamaged = inr refl
sample_completes Disk ends disk sink undamaged = absurd (disk refl)
sample_completes Sink ends disk sink undamaged = absurd (sink refl)
sample_completes (Damaged damage) ends disk sink undamaged = absurd (undamaged damage refl)
sample_completes status ends disk sink undamaged = absurd ends
