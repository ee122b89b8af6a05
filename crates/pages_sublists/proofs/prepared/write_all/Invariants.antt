use Rattle.std.specs.Prelude.{◌≡◌, ◌≤◌}
use Rattle.pages_sublists.specs.Preparing.{pieces_of}
use Rattle.pages_sublists.proofs.WriteLemmas.{pieces_from, AreWritten}
use Rattle.pages_sublists.proofs.prepared.write_all.Given as goal

abbrev pub invariant-loop-k : goal.invariant-loop-k
invariant-loop-k g l = record {
  only : g.D.Disk.only l.fn.disk l.disk;
  later : (g.D.Disk.disk l.fn.disk).faults ≤ (g.D.Disk.disk l.disk).faults;
  journal : (g.D.Disk.disk l.disk).reach.journal ≡ (g.D.Disk.disk l.fn.disk).reach.journal;
  read : g.D.Disk.disk_tells → (g.D.Disk.disk l.disk).bytes_read ≡ (g.D.Disk.disk l.fn.disk).bytes_read;
  written : AreWritten g.D.Disk.disk_tells (g.D.Disk.disk l.fn.disk) (g.D.Disk.disk l.disk) (pieces_from l.places l.spellings l.k) (pieces_of l.places l.spellings);
}
