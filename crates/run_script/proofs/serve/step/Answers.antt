use Rattle.std.proofs.Common.{List, [], Ok, Err, ap}
use Rattle.std.proofs.lemmas.List.{append-nil}
use Rattle.machine_model.specs.Pulls.{Pull}
use Rattle.machine_model.specs.States.{DiskState, MachineState, SourceState, state_by}
use Rattle.model_archive.specs.Standing.{last_state}
use Rattle.archive_hand.specs.States.{AreInStepBy}
use Rattle.archive_hand.specs.Stored.{Store}
use Rattle.run_script.specs.Outcomes.{CanGoOn}
use Rattle.run_script.specs.Serving.{Gives, Pulling, Serving, pulls_beside}
use Rattle.run_script.proofs.PullLemmas.{early_behind, early_undone, ends_by, passes_one, pulling_next, spoils_one, stops_early}
use Rattle.run_script.proofs.ServeLemmas.{ended_by, gone_over_early, serving_next, stopped}
use Rattle.run_script.proofs.serve.step.Given.{Over}
use Rattle.run_script.proofs.serve.step.Goals.{After-carry_on, After-next_item}
use Rattle.run_script.proofs.serve.step.Goals as goal

-- what is so of the machine is so where the next item was taken, but for its source
still : (g : Over) (c : After-next_item g) (P : MachineState → Type 0) → P (state_by g.M.Source.source g.M.Sink.sink g.M.Disk.disk c.args.machine.now)
    → P (record { source = g.M.Source.source c.args.machine.now; sink = g.M.Sink.sink c.next_item.new.machine; disk = g.M.Disk.disk c.next_item.new.machine })
still g c P so = rw (c.next_item.ensures.sink, c.next_item.ensures.disk) so

-- behind the item the source is as it was where the item was taken
given : (g : Over) (c : After-carry_on g) (tells : g.M.Source.source_tells) (began : SourceState) (p : Pulling began (g.M.Source.source c.args.machine.now) c.args.reader.now)
    → Gives c.args.reader.now c.next_item.new.reader p.since (Ok c.in-Ok.item) (g.M.Source.source c.args.machine.now) (g.M.Source.source c.carry_on.new.machine)
given g c tells began p = rw c.carry_on.ensures.source (c.in-Ok.ensures.gives tells began p)

-- and no pull was made since
pulled : (g : Over) (c : After-carry_on g) (pulls : List Pull) → g.M.Machine.asked c.args.machine.now pulls c.next_item.new.machine → g.M.Machine.asked c.args.machine.now pulls c.carry_on.new.machine
pulled g c pulls made = rw append-nil at (g.met.M.Machine.asked_laws.join _ _ _ pulls [] made c.carry_on.ensures.asked)

pub returns-in-Err-clause-pulls : goal.returns-in-Err-clause-pulls
returns-in-Err-clause-pulls g c = λ tells began p. (ends_by began _ _ _ c.next_item.new.reader c.in-Err.status p (c.in-Err.ensures.gives tells began p)).1.ends

pub returns-in-Ok-carry_on-clause-pulls : goal.returns-in-Ok-carry_on-clause-pulls
returns-in-Ok-carry_on-clause-pulls g c = λ tells began p. pulling_next began _ _ _ c.next_item.new.reader c.in-Ok.item p (given g (goal.at.returns-in-Ok-carry_on-clause-pulls g c).After-carry_on tells began p)

pub returns-in-Err-carry_on-clause-pulls : goal.returns-in-Err-carry_on-clause-pulls
returns-in-Err-carry_on-clause-pulls g c = λ tells began p.
    (early_behind c.from.result began _ c.next_item.new.reader (stops_early c.from.result c.in-Err-carry_on.stop c.from.ensures)
    (pulling_next began _ _ _ c.next_item.new.reader c.in-Ok.item p (given g (goal.at.returns-in-Err-carry_on-clause-pulls g c).After-carry_on tells began p))).ends

pub returns-in-Err-clause-goes_on : goal.returns-in-Err-clause-goes_on
returns-in-Err-clause-goes_on g c = λ source_tells sink_tells disk_tells s began before serving.
    let here = still g (goal.at.returns-in-Err-clause-goes_on g c).After-next_item (λ m. Serving s began m c.args.archive.now c.args.reader.now before) serving in
    let made = c.next_item.ensures.asked source_tells began.source here.pulling in (
      pulls_beside (g.M.Sink.sink c.next_item.new.machine).shown made.0,
      made.1,
      ended_by s began _ c.args.archive.now _ c.next_item.new.reader before c.in-Err.status (g.M.Source.source c.next_item.new.machine) made.0 here made.2 (c.in-Err.ensures.gives source_tells began.source here.pulling),
    )

pub returns-in-Ok-carry_on-clause-goes_on : goal.returns-in-Ok-carry_on-clause-goes_on
returns-in-Ok-carry_on-clause-goes_on g c = λ source_tells sink_tells disk_tells s began before serving.
    let at = goal.at.returns-in-Ok-carry_on-clause-goes_on g c in
    let last = c.carry_on.new.machine in
    let here = still g at.After-next_item (λ m. Serving s began m c.args.archive.now c.args.reader.now before) serving in
    let made = c.next_item.ensures.asked source_tells began.source here.pulling in (
      pulls_beside (g.M.Sink.sink c.next_item.new.machine).shown made.0,
      pulled g at.After-carry_on _ made.1,
      serving_next s began _ (g.M.Sink.sink last) (g.M.Disk.disk last) c.args.archive.now c.carry_on.new.archive _ c.next_item.new.reader before c.in-Ok.item (g.M.Source.source last) made.0 here made.2
          (given g at.After-carry_on source_tells began.source here.pulling) (c.in-Ok-carry_on.ensures.outcome disk_tells sink_tells (last_state s here.outcomes) here.in_step),
    )

pub returns-in-Err-carry_on-clause-goes_on : goal.returns-in-Err-carry_on-clause-goes_on
returns-in-Err-carry_on-clause-goes_on g c = λ source_tells sink_tells disk_tells s began before serving.
    let at = goal.at.returns-in-Err-carry_on-clause-goes_on g c in
    let last = c.carry_on.new.machine in
    let here = still g at.After-next_item (λ m. Serving s began m c.args.archive.now c.args.reader.now before) serving in
    let made = c.next_item.ensures.asked source_tells began.source here.pulling in (
      pulls_beside (g.M.Sink.sink c.next_item.new.machine).shown made.0,
      pulled g at.After-carry_on _ made.1,
      gone_over_early s began _ c.carry_on.new.archive _ c.from.result (stops_early c.from.result c.in-Err-carry_on.stop c.from.ensures)
          (stopped s began _ (g.M.Sink.sink last) (g.M.Disk.disk last) c.args.archive.now c.carry_on.new.archive _ c.next_item.new.reader before c.in-Ok.item c.from.result c.in-Err-carry_on.stop (g.M.Source.source last) made.0 here made.2
          (given g at.After-carry_on source_tells began.source here.pulling) c.from.ensures (c.in-Err-carry_on.ensures.outcome disk_tells sink_tells (last_state s here.outcomes) here.in_step)),
    )

pub returns-in-Ok-carry_on-clause-left : goal.returns-in-Ok-carry_on-clause-left
returns-in-Ok-carry_on-clause-left g c = rw c.next_item.ensures.disk at c.in-Ok-carry_on.ensures.left

-- taking an item leaves the disk
kept : (g : Over) (c : After-next_item g) (P : DiskState → Type 0) → P (g.M.Disk.disk c.args.machine.now) → P (g.M.Disk.disk c.next_item.new.machine)
kept g c P so = rw c.next_item.ensures.disk so

-- where the input is gone over the archive can go on, and at an item no run ends so
pub returns-in-Err-clause-ready : goal.returns-in-Err-clause-ready
returns-in-Err-clause-ready g c = λ is.
    kept g (goal.at.returns-in-Err-clause-ready g c).After-next_item (λ d. CanGoOn c.args.archive.now d.reach) c.requires.ready

pub returns-in-Err-carry_on-clause-ready : goal.returns-in-Err-carry_on-clause-ready
returns-in-Err-carry_on-clause-ready g c = λ is. absurd (early_undone c.from.result (stops_early c.from.result c.in-Err-carry_on.stop c.from.ensures) is)

-- what is stored where the item was taken
taken : (g : Over) (c : After-next_item g) (s : Store) → AreInStepBy (g.M.Disk.disk c.args.machine.now) c.args.archive.now s → AreInStepBy (g.M.Disk.disk c.next_item.new.machine) c.args.archive.now s
taken g c s in_step = kept g c (λ d. AreInStepBy d c.args.archive.now s) in_step

pub returns-in-Err-clause-passes : goal.returns-in-Err-clause-passes
returns-in-Err-clause-passes g c = λ disk_tells s in_step d is. absurd (c.in-Err.ensures.undamaged d (ap Err is))

pub returns-in-Ok-carry_on-clause-passes : goal.returns-in-Ok-carry_on-clause-passes
returns-in-Ok-carry_on-clause-passes g c = λ disk_tells s in_step.
    let at = goal.at.returns-in-Ok-carry_on-clause-passes g c in
    passes_one _ s c.in-Ok.item _ _ _ _ _ c.next_item.new.reader (c.in-Ok-carry_on.ensures.passes disk_tells s (taken g at.After-next_item s in_step)) (given g at.After-carry_on)

pub returns-in-Err-carry_on-clause-passes : goal.returns-in-Err-carry_on-clause-passes
returns-in-Err-carry_on-clause-passes g c = λ disk_tells s in_step.
    let at = goal.at.returns-in-Err-carry_on-clause-passes g c in
    spoils_one _ s c.in-Ok.item c.from.result c.in-Err-carry_on.stop _ at.After-carry_on.carry_on.new.archive _ _ _ c.next_item.new.reader c.from.ensures (c.in-Err-carry_on.ensures.passes disk_tells s (taken g at.After-next_item s in_step)) (given g at.After-carry_on)
