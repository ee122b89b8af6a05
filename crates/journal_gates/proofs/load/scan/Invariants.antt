use Rattle.std.proofs.Common.{◌≡◌, ◌+◌, ◌-◌, ◌<◌, ◌≤◌, take}
use Rattle.machine_model.specs.Calls.{OnlyReads}
use Rattle.journal_gates.specs.Header.{header}
use Rattle.journal_gates.specs.Heads.{AreInRow}
use Rattle.journal_gates.specs.Windows.{IsView}
use Rattle.journal_gates.specs.Scanning.{IsScanned}
use Rattle.journal_gates.proofs.load.scan.Given as goal

abbrev pub decreases-loop-heads : goal.decreases-loop-heads
decreases-loop-heads g l = l.fn.window.end - l.gate

abbrev pub invariant-loop-heads : goal.invariant-loop-heads
invariant-loop-heads g l = record {
  only : g.D.Disk.only l.fn.disk l.disk;
  same : OnlyReads (g.D.Disk.disk l.fn.disk) (g.D.Disk.disk l.disk);
  unread : g.D.Disk.disk_tells → (g.D.Disk.disk l.disk).bytes_read.pages ≡ (g.D.Disk.disk l.fn.disk).bytes_read.pages;
  end : l.window.end ≡ l.fn.window.end;
  least : 16 ≤ l.gate;
  inside : l.gate < l.fn.window.end;
  row : AreInRow 16 l.heads.items (l.gate + 1);
  view : g.D.Disk.disk_tells → IsView l.fn.window (g.D.Disk.disk l.fn.disk).holds.journal → IsView l.window (g.D.Disk.disk l.fn.disk).holds.journal;
  scanned : g.D.Disk.disk_tells → IsView l.fn.window (g.D.Disk.disk l.fn.disk).holds.journal
      → take 16 (g.D.Disk.disk l.fn.disk).holds.journal ≡ header → IsScanned (g.D.Disk.disk l.fn.disk).holds.journal l.gate l.heads.items;
}
