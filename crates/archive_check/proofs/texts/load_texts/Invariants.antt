-- The texts so far are loaded.
use Rattle.std.specs.Prelude.{take}
use Rattle.machine_model.specs.Calls.{OnlyReads}
use Rattle.lists_index.specs.Loads.{loaded}
use Rattle.archive_check.specs.Checking.{AreAllLoaded}
use Rattle.archive_check.proofs.texts.load_texts.Given as goal

abbrev pub invariant-loop-at : goal.invariant-loop-at
invariant-loop-at g l = record {
  only : g.D.Disk.only l.fn.disk l.disk;
  same : OnlyReads (g.D.Disk.disk l.fn.disk) (g.D.Disk.disk l.disk);
  loads : AreAllLoaded g.D.Disk.disk_tells (g.D.Disk.disk l.fn.disk).holds.journal (take l.at l.changes) (loaded l.loader);
}
