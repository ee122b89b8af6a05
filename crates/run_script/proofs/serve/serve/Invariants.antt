use Rattle.std.proofs.Common.{◌-◌, ◌^◌, List, []}
use Rattle.machine_model.specs.Pulls.{Pull}
use Rattle.machine_model.specs.States.{SourceState, state_by}
use Rattle.archive_core.specs.States.{AreInStepBy}
use Rattle.archive_core.specs.Stored.{Store}
use Rattle.run_script.specs.Causes.{IsLater, IsLeft}
use Rattle.run_script.specs.Serving.{HasPassed, Pulling, Serving}
use Rattle.run_script.proofs.serve.serve.Given as goal

abbrev pub invariant-items : goal.invariant-items
invariant-items g l = record {
  later : IsLater (state_by g.M.Source.source g.M.Sink.sink g.M.Disk.disk l.fn.machine) (state_by g.M.Source.source g.M.Sink.sink g.M.Disk.disk l.machine);
  left : IsLeft g.M.Disk.disk_tells (g.M.Disk.disk l.fn.machine) (g.M.Disk.disk l.machine) l.fn.archive l.archive;
  pulling : g.M.Source.source_tells → (began : SourceState) → Pulling began (g.M.Source.source l.fn.machine) l.fn.reader → Pulling began (g.M.Source.source l.machine) l.reader;
  passed : g.M.Disk.disk_tells → (s : Store) → AreInStepBy (g.M.Disk.disk l.fn.machine) l.fn.archive s
      → HasPassed g.M.Source.source_tells s (g.M.Disk.disk l.machine) l.archive (g.M.Source.source l.fn.machine) (g.M.Source.source l.machine) l.fn.reader l.reader;
  serving : g.M.Source.source_tells → g.M.Sink.sink_tells → g.M.Disk.disk_tells → (s : Store)
      → Serving s (state_by g.M.Source.source g.M.Sink.sink g.M.Disk.disk l.fn.machine)
      (state_by g.M.Source.source g.M.Sink.sink g.M.Disk.disk l.fn.machine) l.fn.archive l.fn.reader []
      → (pulls : List Pull) × g.M.Machine.asked l.fn.machine pulls l.machine
      × Serving s (state_by g.M.Source.source g.M.Sink.sink g.M.Disk.disk l.fn.machine)
      (state_by g.M.Source.source g.M.Sink.sink g.M.Disk.disk l.machine) l.archive l.reader pulls;
}

abbrev pub decreases-items : goal.decreases-items
decreases-items g l = 2 ^ 40 - l.reader.parts.passed
