use Rattle.std.proofs.Common.{[], Result, Ok, Err, ap, sym, ◌∙◌}
use Rattle.machine_model.specs.States.{SinkState}
use Rattle.archive_hand.specs.States.{AreInStepBy}
use Rattle.archive_hand.specs.Stored.{Spoils, Store, StoreStep}
use Rattle.run_script.specs.Outcomes.{CarriesOut}
use Rattle.run_script.specs.declared.stop.Stop.{Stop}
use Rattle.run_script.specs.declared.stop.Stop.TheVariants.{Sink}
use Rattle.run_script.proofs.OutcomeLemmas.{ShownTo, answered_passes, carried_out, cut_short, halted_passes}
use Rattle.run_script.proofs.PullLemmas.{left_beside}
use Rattle.run_script.proofs.carry_out.carry_out.Given.{Over}
use Rattle.run_script.proofs.carry_out.carry_out.Goals.{After-show}
use Rattle.run_script.proofs.carry_out.carry_out.Goals as goal

pub returns-in-Err-clause-asked : goal.returns-in-Err-clause-asked
returns-in-Err-clause-asked g c = g.met.M.Machine.asked_laws.of_disk c.args.machine.now c.answer.new.disk c.answer.ensures.only

pub returns-in-Err-clause-outcome : goal.returns-in-Err-clause-outcome
returns-in-Err-clause-outcome g c = λ disk_tells sink_tells s in_step.
    let m = g.met.M.Machine in
    rw (ap (λ (t : SinkState). t.shown) (m.disk_alone c.args.machine.now c.answer.new.disk c.answer.ensures.only).1)
    (cut_short s (StoreStep s c.args.item) (Spoils s c.args.item) c.in-Err.halt c.from.result _ _ _ _ _ (c.in-Err.ensures.outcome disk_tells s in_step) c.from.ensures (m.beside_shown c.args.machine.now sink_tells disk_tells))

-- no pull was made
asked : (g : Over) (c : After-show g) → g.M.Machine.asked c.args.machine.now [] c.show.new.sink
asked g c =
    g.met.M.Machine.asked_laws.join c.args.machine.now c.answer.new.disk c.show.new.sink [] [] (g.met.M.Machine.asked_laws.of_disk c.args.machine.now c.answer.new.disk c.answer.ensures.only)
    (g.met.M.Machine.asked_laws.of_sink c.answer.new.disk c.show.new.sink c.show.ensures.only)

-- the item has an outcome, and its reply was shown, or a front of it
outcome : (g : Over) (c : After-show g) (result : Result (Unit {0}) Stop) → g.M.Disk.disk_tells → g.M.Sink.sink_tells → (s : Store) → AreInStepBy (g.M.Disk.disk c.args.machine.now) c.args.archive.now s
    → ShownTo (g.M.Sink.sink c.answer.new.disk).shown (g.M.Sink.sink c.show.new.sink).shown c.as_bytes.result.now result
    → CarriesOut s (StoreStep s c.args.item) (Spoils s c.args.item) result (g.M.Sink.sink c.args.machine.now).shown (g.M.Sink.sink c.show.new.sink).shown (g.M.Disk.disk c.args.machine.now) (g.M.Disk.disk c.show.new.sink) c.answer.new.archive
outcome g c result disk_tells sink_tells s in_step to =
    let m = g.met.M.Machine in
    let mid = c.answer.new.disk in
    let last = c.show.new.sink in
    let shown = ap (λ (t : SinkState). t.shown) (m.disk_alone c.args.machine.now mid c.answer.ensures.only).1 in
    rw shown at (carried_out s (StoreStep s c.args.item) (Spoils s c.args.item) result (g.M.Sink.sink mid).shown (g.M.Sink.sink last).shown (g.M.Disk.disk c.args.machine.now) (g.M.Disk.disk mid) (g.M.Disk.disk last) c.answer.new.archive c.as_bytes.result.now
    (rw (← c.as_bytes.ensures) at (c.in-Ok.ensures.outcome disk_tells s in_step)) (m.beside_shown c.args.machine.now sink_tells disk_tells ∙ sym shown)
    (m.shows mid last sink_tells disk_tells c.show.ensures.only) (m.sink_alone mid last c.show.ensures.only).1 (c.show.ensures.front sink_tells) to)

pub returns-in-Ok-show-clause-asked : goal.returns-in-Ok-show-clause-asked
returns-in-Ok-show-clause-asked g c = asked g (goal.at.returns-in-Ok-show-clause-asked g c).After-show

pub returns-in-Ok-show-clause-outcome : goal.returns-in-Ok-show-clause-outcome
returns-in-Ok-show-clause-outcome g c = λ disk_tells sink_tells s in_step. outcome g (goal.at.returns-in-Ok-show-clause-outcome g c).After-show (Ok tt) disk_tells sink_tells s in_step (c.in-Ok-show.ensures.whole sink_tells)

pub returns-in-Err-show-clause-asked : goal.returns-in-Err-show-clause-asked
returns-in-Err-show-clause-asked g c = asked g (goal.at.returns-in-Err-show-clause-asked g c).After-show

pub returns-in-Err-show-clause-outcome : goal.returns-in-Err-show-clause-outcome
returns-in-Err-show-clause-outcome g c = λ disk_tells sink_tells s in_step. outcome g (goal.at.returns-in-Err-show-clause-outcome g c).After-show (Err Sink) disk_tells sink_tells s in_step (c.in-Err-show.ensures.short sink_tells)

pub returns-in-Ok-show-clause-left : goal.returns-in-Ok-show-clause-left
returns-in-Ok-show-clause-left g c = left_beside _ _ _ _ _ _ (g.met.M.Machine.sink_alone c.answer.new.disk c.show.new.sink c.show.ensures.only).1 c.in-Ok.ensures.left

pub returns-in-Err-clause-passes : goal.returns-in-Err-clause-passes
returns-in-Err-clause-passes g c = λ disk_tells s in_step. halted_passes s (StoreStep s c.args.item) (Spoils s c.args.item) c.in-Err.halt c.from.result _ _ _ _ (c.in-Err.ensures.outcome disk_tells s in_step) c.from.ensures

pub returns-in-Ok-show-clause-passes : goal.returns-in-Ok-show-clause-passes
returns-in-Ok-show-clause-passes g c = λ disk_tells s in_step. answered_passes s (StoreStep s c.args.item) (Spoils s c.args.item) _ _ _ _ _ (c.in-Ok.ensures.outcome disk_tells s in_step) (g.met.M.Machine.sink_alone c.answer.new.disk c.show.new.sink c.show.ensures.only).1
