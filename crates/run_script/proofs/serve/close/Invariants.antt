use Rattle.std.proofs.Common.{◌≡◌, List, []}
use Rattle.machine_model.specs.Pulls.{Pull}
use Rattle.machine_model.specs.States.{MachineState, state_by}
use Rattle.model_archive.specs.Steps.{left_of}
use Rattle.archive_hand.specs.Jobs.{plain_job}
use Rattle.archive_hand.specs.Stored.{Store}
use Rattle.run_script.specs.Causes.{IsLater}
use Rattle.run_script.specs.Outcomes.{CanGoOn}
use Rattle.run_script.specs.Serving.{Closing}
use Rattle.run_script.proofs.serve.close.Given as goal

abbrev pub invariant-stints : goal.invariant-stints
invariant-stints g l = record {
  ready : CanGoOn l.archive (g.M.Disk.disk l.machine).reach;
  source : g.M.Source.source l.machine ≡ g.M.Source.source l.fn.machine;
  asked : g.M.Machine.asked l.fn.machine [] l.machine;
  later : IsLater (state_by g.M.Source.source g.M.Sink.sink g.M.Disk.disk l.fn.machine) (state_by g.M.Source.source g.M.Sink.sink g.M.Disk.disk l.machine);
  closing : g.M.Sink.sink_tells → g.M.Disk.disk_tells → (s : Store) (began : MachineState) (pulls : List Pull)
      → Closing s began (state_by g.M.Source.source g.M.Sink.sink g.M.Disk.disk l.fn.machine) l.fn.archive pulls
      → Closing s began (state_by g.M.Source.source g.M.Sink.sink g.M.Disk.disk l.machine) l.archive pulls;
}

abbrev pub decreases-stints : goal.decreases-stints
decreases-stints g l = left_of (plain_job l.archive.job)
