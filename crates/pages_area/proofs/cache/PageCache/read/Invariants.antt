use Rattle.pages_area.specs.Pieces.{first_pieces}
use Rattle.pages_area.proofs.ReadLemmas.{Reads}
use Rattle.pages_area.proofs.cache.PageCache.read.Given as goal

abbrev pub invariant-pages : goal.invariant-pages
invariant-pages g l = record {
  only : g.D.Disk.only l.initial.disk l.disk;
  reads : Reads g.D.Disk.disk_tells (first_pieces l.index l.extent.first l.buf) l.initial.self l.self (g.D.Disk.disk l.initial.disk) (g.D.Disk.disk l.disk);
}
