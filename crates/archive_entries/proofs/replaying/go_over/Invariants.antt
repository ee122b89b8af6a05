use Rattle.std.proofs.Common.{◌≡◌, length}
use Rattle.machine_model.specs.Calls.{OnlyReads}
use Rattle.lists_index.specs.Loads.{loaded}
use Rattle.archive_entries.specs.Replaying.{IsReplaying}
use Rattle.archive_entries.proofs.replaying.go_over.Given as goal

abbrev pub decreases-loop-bodies : goal.decreases-loop-bodies
decreases-loop-bodies g l = length l.bodies.left

abbrev pub invariant-loop-bodies : goal.invariant-loop-bodies
invariant-loop-bodies g l = record {
  only : g.D.Disk.only l.fn.disk l.disk;
  same : OnlyReads (g.D.Disk.disk l.fn.disk) (g.D.Disk.disk l.disk);
  unread : g.D.Disk.disk_tells → (g.D.Disk.disk l.disk).bytes_read.pages ≡ (g.D.Disk.disk l.fn.disk).bytes_read.pages;
  end : l.bodies.window.end ≡ l.journal.end;
  replaying : IsReplaying g.D.Disk.disk_tells (g.D.Disk.disk l.fn.disk).holds.journal l.heads l.bodies l.met.directory.changes l.met.plans.items l.met.marked (loaded l.met.loader);
}
