use Rattle.std.specs.Prelude.{◌≡◌, ◌≤◌}
use Rattle.pages_sublists.proofs.PagedLemmas.{AreWrittenSome, left_from, rest_from}
use Rattle.pages_sublists.proofs.paged.write_pages.Given as goal

abbrev pub invariant-loop-k : goal.invariant-loop-k
invariant-loop-k g l = record {
  only : g.D.Disk.only l.fn.disk l.disk;
  later : (g.D.Disk.disk l.fn.disk).faults ≤ (g.D.Disk.disk l.disk).faults;
  journal : (g.D.Disk.disk l.disk).reach.journal ≡ (g.D.Disk.disk l.fn.disk).reach.journal;
  read : g.D.Disk.disk_tells → (g.D.Disk.disk l.disk).bytes_read ≡ (g.D.Disk.disk l.fn.disk).bytes_read;
  written : AreWrittenSome g.D.Disk.disk_tells (g.D.Disk.disk l.fn.disk) (g.D.Disk.disk l.disk) l.left l.fn.most (rest_from l.places l.k) (left_from l.places l.spellings l.k l.skip l.left) (left_from l.places l.spellings 0 l.fn.from l.fn.most);
}
