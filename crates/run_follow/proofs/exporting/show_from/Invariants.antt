use Rattle.std.proofs.Common.{◌≡◌, ◌≤◌, ℕ, List, All, length}
use Rattle.journal_bodies.specs.Numbered.{AreIn}
use Rattle.journal_packets.specs.Packets.{most_body}
use Rattle.run_follow.proofs.ExportLemmas.{Showing}
use Rattle.run_follow.proofs.exporting.show_from.Given as goal

abbrev pub invariant-loop-place : goal.invariant-loop-place
invariant-loop-place g l = record {
  source : g.M.Source.source l.machine ≡ g.M.Source.source l.fn.machine;
  holds : (g.M.Disk.disk l.machine).holds ≡ (g.M.Disk.disk l.fn.machine).holds;
  later : (g.M.Disk.disk l.fn.machine).faults ≤ (g.M.Disk.disk l.machine).faults;
  sink_later : (g.M.Sink.sink l.fn.machine).faults ≤ (g.M.Sink.sink l.machine).faults;
  heads : l.bodies.heads ≡ l.fn.bodies.heads;
  reached : l.bodies.window.end ≤ (g.M.Disk.disk l.machine).reach.journal;
  are : g.M.Disk.disk_tells → (all : List (List ℕ)) → AreIn (g.M.Disk.disk l.fn.machine).holds.journal all l.fn.bodies
      → AreIn (g.M.Disk.disk l.machine).holds.journal all l.bodies;
  showing : g.M.Sink.sink_tells → g.M.Disk.disk_tells → (all : List (List ℕ)) → AreIn (g.M.Disk.disk l.fn.machine).holds.journal all l.fn.bodies
      → All (λ (body : List ℕ). length body ≤ most_body) all
      → Showing all l.from l.place (g.M.Sink.sink l.fn.machine) (g.M.Sink.sink l.machine) (g.M.Disk.disk l.fn.machine) (g.M.Disk.disk l.machine);
}
