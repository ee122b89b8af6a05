use Rattle.std.proofs.Common.{[], Ok}
use Rattle.std.proofs.lemmas.List.{append-nil}
use Rattle.machine_model.specs.States.{MachineState, state_by}
use Rattle.model_archive.specs.Standing.{last_state}
use Rattle.run_taking.specs.Serving.{Gives, Serving, pulls_beside}
use Rattle.run_taking.proofs.ServeLemmas.{ended_by, went_on}
use Rattle.run_taking.proofs.serve.step.Given.{Over}
use Rattle.run_taking.proofs.serve.step.Goals.{After-next_packet}
use Rattle.run_taking.proofs.serve.step.Goals as goal

-- what is so of the machine is so where the next packet was taken, but for its source
still : (g : Over) (c : After-next_packet g) (P : MachineState → Type 0) → P (state_by g.M.Source.source g.M.Sink.sink g.M.Disk.disk c.args.machine.now)
    → P (record { source = g.M.Source.source c.args.machine.now; sink = g.M.Sink.sink c.next_packet.new.machine; disk = g.M.Disk.disk c.next_packet.new.machine })
still g c P so = rw (c.next_packet.ensures.sink, c.next_packet.ensures.disk) so

pub carry_out-requires-clause-ready : goal.carry_out-requires-clause-ready
carry_out-requires-clause-ready g c = rw c.next_packet.ensures.disk c.requires.ready

pub returns-in-Err-clause-goes_on : goal.returns-in-Err-clause-goes_on
returns-in-Err-clause-goes_on g c = λ source_tells sink_tells disk_tells s began before serving.
    let here = still g (goal.at.returns-in-Err-clause-goes_on g c).After-next_packet (λ m. Serving s began m c.args.archive.now c.args.reader.now c.args.bodies.now before) serving in
    let made = c.next_packet.ensures.asked in (
      pulls_beside (g.M.Sink.sink c.next_packet.new.machine).shown made.0,
      rw (c.next_packet.ensures.sink) made.1,
      ended_by s began _ (g.M.Source.source c.next_packet.new.machine) c.args.archive.now c.args.reader.now c.next_packet.new.reader c.args.bodies.now before made.0 c.in-Err.end here (made.2 source_tells) (c.in-Err.ensures.gives source_tells),
    )

pub returns-clause-goes_on : goal.returns-clause-goes_on
returns-clause-goes_on g c = λ source_tells sink_tells disk_tells s began before serving.
    let at = goal.at.returns-clause-goes_on g c in
    let mid = c.next_packet.new.machine in
    let last = c.carry_out.new.machine in
    let here = still g at.After-next_packet (λ m. Serving s began m c.args.archive.now c.args.reader.now c.args.bodies.now before) serving in
    let made = c.next_packet.ensures.asked in
    let gives : Gives c.args.reader.now c.next_packet.new.reader (Ok c.in-Ok.packet) (g.M.Source.source c.args.machine.now) (g.M.Source.source last) = rw c.carry_out.ensures.source (c.in-Ok.ensures.gives source_tells) in (
      pulls_beside (g.M.Sink.sink mid).shown made.0,
      rw append-nil at (g.met.M.Machine.asked_laws.join c.args.machine.now mid last (pulls_beside (g.M.Sink.sink mid).shown made.0) [] (rw c.next_packet.ensures.sink made.1) c.carry_out.ensures.asked),
      went_on s began _ (g.M.Source.source last) (g.M.Sink.sink last) (g.M.Disk.disk last) c.args.archive.now c.carry_out.new.archive c.args.reader.now c.next_packet.new.reader c.args.bodies.now c.carry_out.new.bodies before made.0 c.in-Ok.packet c.carry_out.result
          c.carry_out.ensures.undone (g.met.M.Machine.beside_shown mid sink_tells disk_tells) here (made.2 source_tells) gives (c.carry_out.ensures.came disk_tells sink_tells (last_state s here.outcomes) here.following),
    )
