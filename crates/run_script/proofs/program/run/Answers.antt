use Rattle.std.proofs.Common.{◌≡◌, [], refl, inl, inr, sym, subst, ◌∙◌}
use Rattle.machine_model.proofs.MomentLemmas.{goes_on_same}
use Rattle.run_words.specs.Words.{AreWords, texts}
use Rattle.run_words.specs.declared.task.Task.{Task}
use Rattle.run_words.specs.declared.task.Task.TheVariants as tasks
use Rattle.model_archive.specs.Stands.{StandsIn, bodies_of}
use Rattle.model_archive.specs.Steps.{Step, Works}
use Rattle.model_archive.specs.Worlds.{at_work, world_of}
use Rattle.archive_entries.specs.declared.error.LoadError.TheVariants as loads
use Rattle.archive_hand.specs.Stored.{StandsBy, StoreStep, StoreStint, is_at_work}
use Rattle.run_script.specs.Headline.{CarriesOutAll, store_of}
use Rattle.run_script.specs.declared.status.Status.TheVariants.{Memory}
use Rattle.run_script.proofs.ExportLemmas.{load_spares, not_exported, pages_still}
use Rattle.run_script.proofs.FollowLemmas.{export_no_packets, not_followed, refused_no_packets, sample_no_packets}
use Rattle.run_script.proofs.PullLemmas.{not_pulled}
use Rattle.run_script.proofs.SampleLemmas.{not_loaded}
use Rattle.run_script.proofs.ServeLemmas.{bodies_still, kept_by, keeps_still, keeps_still_by, not_begun, syncs_still}
use Rattle.run_script.proofs.StandingLemmas.{kept_history}
use Rattle.run_script.proofs.program.run.Given.{Over}
use Rattle.run_script.proofs.program.run.Goals.{In-Err}
use Rattle.run_script.proofs.program.run.Goals as goal

-- there was no memory for words that ask for something
memory : (g : Over) (c : In-Err g) (task : Task) → AreWords (texts c.args.words.now) task → c.in-Err.status ≡ Memory
memory g c task are = elim c.in-Err.ensures.refused as (λ _. c.in-Err.status ≡ Memory) [ inl none ↦ none | inr refused ↦ absurd (refused.1 task are) ]

pub returns-in-Err-clause-headline : goal.returns-in-Err-clause-headline
returns-in-Err-clause-headline g c = λ source_tells sink_tells disk_tells are h stands.
    let m = c.args.machine.now in
    let d = g.M.Disk.disk m in
    let none = memory g (goal.at.returns-in-Err-clause-headline g c).In-Err tasks.Script are in (
      [],
      g.met.M.Machine.asked_laws.of_disk m m (g.met.M.Disk.only_same m),
      record {
        headline = not_begun Step Works at_work StandsIn (world_of h) c.in-Err.status _ _ (inr (inr (inl none))) (refl, refl) (kept_history h d d _ (g.met.M.Machine.beside_shown m sink_tells disk_tells) (keeps_still h d));
        over_all = refl;
        with_stints = refl;
        undamaged = λ damage is. (let both = sym none ∙ is in absurd cc);
      },
    )

pub returns-in-Err-clause-by_reads : goal.returns-in-Err-clause-by_reads
returns-in-Err-clause-by_reads g c = λ source_tells sink_tells disk_tells are h begins.
    let m = c.args.machine.now in
    let d = g.M.Disk.disk m in
    let s = store_of h d in
    let none = memory g (goal.at.returns-in-Err-clause-by_reads g c).In-Err tasks.Script are in (
      [],
      g.met.M.Machine.asked_laws.of_disk m m (g.met.M.Disk.only_same m),
      record {
        headline = not_begun StoreStep StoreStint is_at_work StandsBy s c.in-Err.status _ _ (inr (inr (inl none))) (refl, refl) (kept_by s d d _ (g.met.M.Machine.beside_shown m sink_tells disk_tells) (keeps_still_by s d));
        damaged = λ damage is. (let both = sym none ∙ is in absurd cc);
        read = λ done. absurd (subst CarriesOutAll none done);
      },
    )

pub returns-in-Err-clause-complete : goal.returns-in-Err-clause-complete
returns-in-Err-clause-complete g c = λ source_tells sink_tells disk_tells are archive script few disk source sink. inr (inl (memory g (goal.at.returns-in-Err-clause-complete g c).In-Err tasks.Script are))

pub returns-in-Err-clause-loaded : goal.returns-in-Err-clause-loaded
returns-in-Err-clause-loaded g c = λ disk_tells are. inr (inr (inr (memory g (goal.at.returns-in-Err-clause-loaded g c).In-Err tasks.Script are)))

pub returns-in-Err-clause-input_at : goal.returns-in-Err-clause-input_at
returns-in-Err-clause-input_at g c = λ source_tells are. inr (not_pulled c.in-Err.status _ _ (inr (inr (inl (memory g (goal.at.returns-in-Err-clause-input_at g c).In-Err tasks.Script are)))) refl)

pub returns-in-Err-clause-sample_ends : goal.returns-in-Err-clause-sample_ends
returns-in-Err-clause-sample_ends g c = λ numbers are. inl (rw (memory g (goal.at.returns-in-Err-clause-sample_ends g c).In-Err (tasks.Generate numbers) are) tt)

pub returns-in-Err-clause-occupied : goal.returns-in-Err-clause-occupied
returns-in-Err-clause-occupied g c = λ disk_tells numbers are h spelled loads some. inr (inr (inl (memory g (goal.at.returns-in-Err-clause-occupied g c).In-Err (tasks.Generate numbers) are)))

pub returns-in-Err-clause-spared : goal.returns-in-Err-clause-spared
returns-in-Err-clause-spared g c = λ disk_tells numbers are h each some. (refl, keeps_still h (g.M.Disk.disk c.args.machine.now) each)

pub returns-in-Err-clause-sampled : goal.returns-in-Err-clause-sampled
returns-in-Err-clause-sampled g c = λ sink_tells disk_tells numbers are stands.
    let m = c.args.machine.now in
    not_loaded numbers.seed numbers.count c.in-Err.status _ _ _ _ (rw (memory g (goal.at.returns-in-Err-clause-sampled g c).In-Err (tasks.Generate numbers) are) tt) (g.met.M.Machine.beside_shown m sink_tells disk_tells) refl
    (goes_on_same (g.M.Disk.disk m)) (keeps_still [] (g.M.Disk.disk m))

pub returns-in-Err-clause-filled : goal.returns-in-Err-clause-filled
returns-in-Err-clause-filled g c = λ disk_tells numbers are stands disk sink. inr (memory g (goal.at.returns-in-Err-clause-filled g c).In-Err (tasks.Generate numbers) are)

pub returns-in-Script-clause-refused : goal.returns-in-Script-clause-refused
returns-in-Script-clause-refused g c = λ disk_tells task are at refused. c.run_script.ensures.refused disk_tells at refused

pub returns-in-Generate-clause-refused : goal.returns-in-Generate-clause-refused
returns-in-Generate-clause-refused g c = λ disk_tells task are at refused. c.run_sample.ensures.refused disk_tells at refused

pub returns-in-Generate-clause-left_alone : goal.returns-in-Generate-clause-left_alone
returns-in-Generate-clause-left_alone g c = λ disk_tells at refused. let alone = c.run_sample.ensures.left_alone disk_tells at refused in (c.run_sample.ensures.source, alone.0, alone.1)

pub returns-in-Generate-clause-not_empty : goal.returns-in-Generate-clause-not_empty
returns-in-Generate-clause-not_empty g c = λ n is.
    let full = c.run_sample.ensures.not_empty n is in
    (full.0, (c.in-Generate.numbers, rw c.in-Generate.is at c.in-Ok.ensures.read), full.1)

pub returns-in-Script-clause-headline : goal.returns-in-Script-clause-headline
returns-in-Script-clause-headline g c = λ source_tells sink_tells disk_tells are h stands. c.run_script.ensures.headline source_tells sink_tells disk_tells h stands

pub returns-in-Script-clause-by_reads : goal.returns-in-Script-clause-by_reads
returns-in-Script-clause-by_reads g c = λ source_tells sink_tells disk_tells are h begins. c.run_script.ensures.by_reads source_tells sink_tells disk_tells h begins

pub returns-in-Err-clause-unwritten : goal.returns-in-Err-clause-unwritten
returns-in-Err-clause-unwritten g c = λ disk_tells numbers are bodies each some. (refl, bodies_still bodies (g.M.Disk.disk c.args.machine.now) each)

-- an export
pub returns-in-Err-clause-export_ends : goal.returns-in-Err-clause-export_ends
returns-in-Err-clause-export_ends g c = λ first are. rw (memory g (goal.at.returns-in-Err-clause-export_ends g c).In-Err (tasks.Export first) are) tt

pub returns-in-Err-clause-export_loaded : goal.returns-in-Err-clause-export_loaded
returns-in-Err-clause-export_loaded g c = λ disk_tells first are. inr (inr (inr (memory g (goal.at.returns-in-Err-clause-export_loaded g c).In-Err (tasks.Export first) are)))

pub returns-in-Err-clause-exported : goal.returns-in-Err-clause-exported
returns-in-Err-clause-exported g c = λ sink_tells disk_tells first are h begins.
    let m = c.args.machine.now in
    let d = g.M.Disk.disk m in
    let none = memory g (goal.at.returns-in-Err-clause-exported g c).In-Err (tasks.Export first) are in
    not_exported h first.number c.in-Err.status _ _ d d (λ is. (let both = sym none ∙ is in absurd cc)) (g.met.M.Machine.beside_shown m sink_tells disk_tells) refl (pages_still d) (bodies_still (bodies_of h) d) (keeps_still h d)

pub returns-in-Err-clause-export_spared : goal.returns-in-Err-clause-export_spared
returns-in-Err-clause-export_spared g c = λ sink_tells disk_tells first are.
    let m = c.args.machine.now in
    let d = g.M.Disk.disk m in
    load_spares d d _ _ (g.met.M.Machine.beside_shown m sink_tells disk_tells) refl (pages_still d) (λ long. syncs_still d)

pub returns-in-Err-clause-export_complete : goal.returns-in-Err-clause-export_complete
returns-in-Err-clause-export_complete g c = λ disk_tells first are archive disk sink. inr (memory g (goal.at.returns-in-Err-clause-export_complete g c).In-Err (tasks.Export first) are)

pub returns-in-Export-clause-refused : goal.returns-in-Export-clause-refused
returns-in-Export-clause-refused g c = λ disk_tells task are at refused. c.run_export.ensures.refused disk_tells at refused

pub returns-in-Export-clause-left_alone : goal.returns-in-Export-clause-left_alone
returns-in-Export-clause-left_alone g c = λ disk_tells at refused. let alone = c.run_export.ensures.left_alone disk_tells at refused in (c.run_export.ensures.source, alone.0, alone.1)

-- a run that follows
pub returns-in-Err-clause-packets : goal.returns-in-Err-clause-packets
returns-in-Err-clause-packets g c = λ of. absurd (refused_no_packets _ c.in-Err.status c.in-Err.ensures.refused of)

pub returns-in-Script-clause-packets : goal.returns-in-Script-clause-packets
returns-in-Script-clause-packets g c = λ of. absurd (c.run_script.ensures.no_packets of)

pub returns-in-Export-clause-packets : goal.returns-in-Export-clause-packets
returns-in-Export-clause-packets g c = λ of. absurd (export_no_packets c.run_export.result c.run_export.ensures.ends of)

pub returns-in-Generate-clause-packets : goal.returns-in-Generate-clause-packets
returns-in-Generate-clause-packets g c = λ of. absurd (sample_no_packets c.run_sample.result c.run_sample.ensures.ends of)

pub returns-in-Follow-clause-packets : goal.returns-in-Follow-clause-packets
returns-in-Follow-clause-packets g c = λ of. rw c.in-Follow.is at c.in-Ok.ensures.read

pub returns-in-Err-clause-follow_ends : goal.returns-in-Err-clause-follow_ends
returns-in-Err-clause-follow_ends g c = λ are. rw (memory g (goal.at.returns-in-Err-clause-follow_ends g c).In-Err tasks.Follow are) tt

pub returns-in-Err-clause-follow_loaded : goal.returns-in-Err-clause-follow_loaded
returns-in-Err-clause-follow_loaded g c = λ disk_tells are. inr (inr (inr (memory g (goal.at.returns-in-Err-clause-follow_loaded g c).In-Err tasks.Follow are)))

pub returns-in-Err-clause-followed : goal.returns-in-Err-clause-followed
returns-in-Err-clause-followed g c = λ source_tells sink_tells disk_tells are h begins.
    let m = c.args.machine.now in
    let d = g.M.Disk.disk m in
    let none = memory g (goal.at.returns-in-Err-clause-followed g c).In-Err tasks.Follow are in (
      [],
      g.met.M.Machine.asked_laws.of_disk m m (g.met.M.Disk.only_same m),
      not_followed h c.in-Err.status loads.Memory _ _ none (λ at is. cc) refl refl (g.met.M.Machine.beside_shown m sink_tells disk_tells) (pages_still d) (bodies_still (bodies_of h) d) (keeps_still h d),
    )

pub returns-in-Err-clause-follow_complete : goal.returns-in-Err-clause-follow_complete
returns-in-Err-clause-follow_complete g c = λ source_tells sink_tells disk_tells are archive disk source sink. rw (memory g (goal.at.returns-in-Err-clause-follow_complete g c).In-Err tasks.Follow are) tt

pub returns-in-Follow-clause-refused : goal.returns-in-Follow-clause-refused
returns-in-Follow-clause-refused g c = λ disk_tells task are at refused. c.run_follow.ensures.refused disk_tells at refused
