use Rattle.std.proofs.Common.{◌≡◌, ◌++◌, [], Ok, Err, sym, subst, ◌∙◌}
use Rattle.machine_model.specs.States.{DiskState}
use Rattle.base_sample.specs.Samples.{sample_of}
use Rattle.pages_sublists.specs.declared.why.Damage.{Damage}
use Rattle.archive_hand.specs.States.{AreInStep}
use Rattle.model_archive.specs.Worlds.{world_of}
use Rattle.run_sample.specs.Filling.{IsFilled}
use Rattle.run_script.specs.Causes.{IsLoaded}
use Rattle.run_script.specs.Sampling.{Sampled}
use Rattle.run_script.specs.declared.status.Status.{Status}
use Rattle.run_script.specs.declared.status.Status.TheVariants.{Damaged, Done, Memory, Sink}
use Rattle.run_script.proofs.SampleLemmas.{fill_undone, filled_shown, filled_unshown}
use Rattle.run_script.proofs.ServeLemmas.{IsUndone}
use Rattle.run_script.proofs.sampling.fill_and_show.Given.{Over}
use Rattle.run_script.proofs.sampling.fill_and_show.Goals.{After-generated, After-show}
use Rattle.run_script.proofs.sampling.fill_and_show.Goals as goal

pub returns-in-Err-clause-undamaged : goal.returns-in-Err-clause-undamaged
returns-in-Err-clause-undamaged g c = λ disk_tells in_step d is.
    let filled = c.in-Err.ensures.filled disk_tells (world_of []) in_step in
    subst IsUndone (sym c.from.ensures ∙ is) (fill_undone filled.outcomes (g.M.Disk.disk c.fill.new.disk) c.fill.new.archive c.in-Err.error filled.ends)

pub returns-in-Err-clause-sampled : goal.returns-in-Err-clause-sampled
returns-in-Err-clause-sampled g c = λ sink_tells disk_tells in_step began loaded.
    let filled = c.in-Err.ensures.filled disk_tells (world_of []) in_step in
    filled_unshown c.args.numbers.seed c.args.numbers.count c.from.result (Err c.in-Err.error) _ _ began _ _ _ (rw c.from.ensures (fill_undone filled.outcomes (g.M.Disk.disk c.fill.new.disk) c.fill.new.archive c.in-Err.error filled.ends)) loaded
    (g.met.M.Machine.disk_alone c.args.machine.now c.fill.new.disk c.fill.ensures.only).1 (rw c.new-sample.ensures at filled)

-- the sample's commands were carried out
filled : (g : Over) (c : After-generated g) → g.M.Disk.disk_tells → AreInStep (g.M.Disk.disk c.args.machine.now) c.args.archive.now (world_of [])
    → IsFilled (world_of []) (sample_of c.args.numbers.seed c.args.numbers.count) (Ok c.in-Ok.report) (g.M.Disk.disk c.args.machine.now) (g.M.Disk.disk c.fill.new.disk) c.fill.new.archive
filled g c disk_tells in_step = rw c.new-sample.ensures at (c.in-Ok.ensures.filled disk_tells (world_of []) in_step)

-- and the lines were shown, or a front of them
sampled : (g : Over) (c : After-show g) (status : Status) (began : DiskState) → g.M.Sink.sink_tells → g.M.Disk.disk_tells → IsLoaded (g.M.Sink.sink c.args.machine.now).shown began (g.M.Disk.disk c.args.machine.now)
    → IsFilled (world_of []) (sample_of c.args.numbers.seed c.args.numbers.count) (Ok c.in-Ok.report) (g.M.Disk.disk c.args.machine.now) (g.M.Disk.disk c.fill.new.disk) c.fill.new.archive
    → (status ≡ Done → (g.M.Sink.sink c.show.new.sink).shown ≡ (g.M.Sink.sink c.fill.new.disk).shown ++ c.as_bytes.result.now) → ((damage : Damage) → status ≡ Damaged damage → ⊥)
    → Sampled c.args.numbers.seed c.args.numbers.count status (g.M.Sink.sink c.args.machine.now) (g.M.Sink.sink c.show.new.sink) began (g.M.Disk.disk c.show.new.sink)
sampled g c status began sink_tells disk_tells loaded filled whole undamaged =
    let m = c.args.machine.now in
    let mid = c.fill.new.disk in
    let last = c.show.new.sink in
    let alone = g.met.M.Machine.disk_alone m mid c.fill.ensures.only in
    rw alone.1 at (filled_shown c.args.numbers.seed c.args.numbers.count status c.in-Ok.report (g.M.Sink.sink mid) (g.M.Sink.sink last) began (g.M.Disk.disk m) (g.M.Disk.disk mid) (g.M.Disk.disk last) c.fill.new.archive c.as_bytes.result.now
    (rw alone.1 loaded) filled (c.as_bytes.ensures ∙ c.in-Ok-generated.ensures)
    (g.met.M.Machine.shows mid last sink_tells disk_tells c.show.ensures.only) (g.met.M.Machine.sink_alone mid last c.show.ensures.only).1 (c.show.ensures.front sink_tells) whole undamaged)

pub returns-in-Err-generated-clause-sampled : goal.returns-in-Err-generated-clause-sampled
returns-in-Err-generated-clause-sampled g c = λ sink_tells disk_tells in_step began loaded.
    filled_unshown c.args.numbers.seed c.args.numbers.count Memory (Ok c.in-Ok.report) _ _ began _ _ _ tt loaded
    (g.met.M.Machine.disk_alone c.args.machine.now c.fill.new.disk c.fill.ensures.only).1 (filled g (goal.at.returns-in-Err-generated-clause-sampled g c).After-generated disk_tells in_step)

pub returns-in-Ok-show-clause-sampled : goal.returns-in-Ok-show-clause-sampled
returns-in-Ok-show-clause-sampled g c = λ sink_tells disk_tells in_step began loaded.
    let at = goal.at.returns-in-Ok-show-clause-sampled g c in
    sampled g at.After-show Done began sink_tells disk_tells loaded (filled g at.After-generated disk_tells in_step) (λ is. c.in-Ok-show.ensures.whole sink_tells) (λ damage is. cc)

pub returns-clause-sampled : goal.returns-clause-sampled
returns-clause-sampled g c = λ sink_tells disk_tells in_step began loaded.
    let at = goal.at.returns-clause-sampled g c in
    sampled g at.After-show Sink began sink_tells disk_tells loaded (filled g at.After-generated disk_tells in_step) (λ is. cc) (λ damage is. cc)
