use Rattle.std.proofs.Common.{◌-◌, ◌^◌, List, []}
use Rattle.machine_model.specs.Pulls.{Pull}
use Rattle.machine_model.specs.States.{MachineState, state_by}
use Rattle.archive_hand.specs.Stored.{Store}
use Rattle.run_taking.specs.Following.{IsLater}
use Rattle.run_taking.specs.Serving.{CanGoOn, Serving}
use Rattle.run_taking.proofs.serve.serve.Given as goal

abbrev pub invariant-packets : goal.invariant-packets
invariant-packets g l = record {
  later : IsLater (state_by g.M.Source.source g.M.Sink.sink g.M.Disk.disk l.fn.machine) (state_by g.M.Source.source g.M.Sink.sink g.M.Disk.disk l.machine);
  ready : CanGoOn (g.M.Disk.disk l.machine).reach l.archive l.bodies;
  serving : g.M.Source.source_tells → g.M.Sink.sink_tells → g.M.Disk.disk_tells → (s : Store) (began : MachineState)
      → Serving s began (state_by g.M.Source.source g.M.Sink.sink g.M.Disk.disk l.fn.machine) l.fn.archive l.fn.reader l.fn.bodies []
      → (pulls : List Pull) × g.M.Machine.asked l.fn.machine pulls l.machine
      × Serving s began (state_by g.M.Source.source g.M.Sink.sink g.M.Disk.disk l.machine) l.archive l.reader l.bodies pulls;
}

abbrev pub decreases-packets : goal.decreases-packets
decreases-packets g l = 2 ^ 40 - l.reader.passed
