use Rattle.std.proofs.Common.{[], ap, sym, ◌∙◌}
use Rattle.machine_model.specs.States.{SinkState}
use Rattle.run_taking.proofs.ShownLemmas.{cut_short, shown_part, shown_whole}
use Rattle.run_taking.proofs.serve.carry_out.Given.{Over}
use Rattle.run_taking.proofs.serve.carry_out.Goals.{After-show}
use Rattle.run_taking.proofs.serve.carry_out.Goals as goal

pub returns-in-Err-clause-asked : goal.returns-in-Err-clause-asked
returns-in-Err-clause-asked g c = g.met.M.Machine.asked_laws.of_disk c.args.machine.now c.answer.new.disk c.answer.ensures.only

-- no pull was made
asked : (g : Over) (c : After-show g) → g.M.Machine.asked c.args.machine.now [] c.show.new.sink
asked g c =
    g.met.M.Machine.asked_laws.join c.args.machine.now c.answer.new.disk c.show.new.sink [] [] (g.met.M.Machine.asked_laws.of_disk c.args.machine.now c.answer.new.disk c.answer.ensures.only)
    (g.met.M.Machine.asked_laws.of_sink c.answer.new.disk c.show.new.sink c.show.ensures.only)

pub returns-in-Err-clause-came : goal.returns-in-Err-clause-came
returns-in-Err-clause-came g c = λ disk_tells sink_tells s following.
    let m = g.met.M.Machine in
    rw (ap (λ (t : SinkState). t.shown) (m.disk_alone c.args.machine.now c.answer.new.disk c.answer.ensures.only).1)
    (cut_short s c.args.packet.now.at _ c.in-Err.end _ _ _ _ _ _ c.in-Err.ensures.cause (c.in-Err.ensures.came disk_tells s following) (m.beside_shown c.args.machine.now sink_tells disk_tells))

pub returns-in-Ok-show-clause-asked : goal.returns-in-Ok-show-clause-asked
returns-in-Ok-show-clause-asked g c = asked g (goal.at.returns-in-Ok-show-clause-asked g c).After-show

pub returns-in-Err-show-clause-asked : goal.returns-in-Err-show-clause-asked
returns-in-Err-show-clause-asked g c = asked g (goal.at.returns-in-Err-show-clause-asked g c).After-show

pub returns-in-Ok-show-clause-came : goal.returns-in-Ok-show-clause-came
returns-in-Ok-show-clause-came g c = λ disk_tells sink_tells s following.
    let m = g.met.M.Machine in
    let mid = c.answer.new.disk in
    let last = c.show.new.sink in
    let shown = ap (λ (t : SinkState). t.shown) (m.disk_alone c.args.machine.now mid c.answer.ensures.only).1 in
    rw shown at (shown_whole s c.args.packet.now.at _ (g.M.Sink.sink mid).shown (g.M.Sink.sink last).shown (g.M.Disk.disk c.args.machine.now) (g.M.Disk.disk mid) (g.M.Disk.disk last) c.answer.new.archive c.answer.new.bodies c.as_bytes.result.now
    (rw (← c.as_bytes.ensures) at (c.in-Ok.ensures.came disk_tells s following)) (m.beside_shown c.args.machine.now sink_tells disk_tells ∙ sym shown)
    (m.shows mid last sink_tells disk_tells c.show.ensures.only) (m.sink_alone mid last c.show.ensures.only).1 (c.show.ensures.front sink_tells) (c.in-Ok-show.ensures.whole sink_tells))

pub returns-in-Err-show-clause-came : goal.returns-in-Err-show-clause-came
returns-in-Err-show-clause-came g c = λ disk_tells sink_tells s following.
    let m = g.met.M.Machine in
    let mid = c.answer.new.disk in
    let last = c.show.new.sink in
    let shown = ap (λ (t : SinkState). t.shown) (m.disk_alone c.args.machine.now mid c.answer.ensures.only).1 in
    rw shown at (shown_part s c.args.packet.now.at _ (g.M.Sink.sink mid).shown (g.M.Sink.sink last).shown (g.M.Disk.disk c.args.machine.now) (g.M.Disk.disk mid) (g.M.Disk.disk last) c.answer.new.archive c.answer.new.bodies c.as_bytes.result.now
    (rw (← c.as_bytes.ensures) at (c.in-Ok.ensures.came disk_tells s following)) (m.beside_shown c.args.machine.now sink_tells disk_tells ∙ sym shown)
    (m.shows mid last sink_tells disk_tells c.show.ensures.only) (c.show.ensures.front sink_tells))
