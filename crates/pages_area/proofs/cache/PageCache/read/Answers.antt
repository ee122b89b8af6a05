use Rattle.std.proofs.Common.{◌+◌, ◌*◌, ◌≤◌, ◌∙◌, length, arith}
use Rattle.pages_area.specs.Caches.{Kept}
use Rattle.pages_area.proofs.PieceLemmas.{written-pieces}
use Rattle.pages_area.proofs.ReadLemmas.{reads-more, reads-stands, reads-bytes}
use Rattle.pages_area.proofs.cache.PageCache.read.Goals as goal

pub returns-in-Err-clause-stays : goal.returns-in-Err-clause-stays
returns-in-Err-clause-stays g c = λ tells stands.
    c.read_page.ensures.stays tells (reads-stands _ _ _ c.pages.self _ (g.D.Disk.disk c.pages.disk) tells c.pages.invariant.reads stands).1

pub returns-in-Err-clause-part : goal.returns-in-Err-clause-part
returns-in-Err-clause-part g c =
    let start : 4096 * c.pages.index ≤ length c.pages.buf = omega arith in
    let pieces = written-pieces c.args.extent.first c.pages.index c.min-end.result c.pages.buf c.read_page.new.buf start (omega arith) (omega arith) in (
      c.pages.index,
      (
        omega arith,
        rw pieces.0
            (c.in-Err.ensures.kept ∙ c.pages.invariant.reads.asked, λ told. c.in-Err.ensures.unread told ∙ c.pages.invariant.reads.count told),
      ),
    )

pub pages-preserved : goal.pages-preserved
pages-preserved g c =
    let start : 4096 * c.pages.index ≤ length c.pages.buf = omega arith in
    let pieces = written-pieces c.args.extent.first c.pages.index c.min-end.result c.pages.buf c.read_page.new.buf start (omega arith) (omega arith) in
    let k : Kept = record { page = c.args.extent.first + c.pages.index; bytes = c.read_page.new.buf } in
    record {
      only = g.met.D.Disk.only_joins _ _ _ c.pages.invariant.only c.read_page.ensures.only;
      reads = rw pieces.1 (reads-more _ _ k _ c.pages.self c.read_page.new.self _ (g.D.Disk.disk c.pages.disk) (g.D.Disk.disk c.read_page.new.disk)
          c.pages.invariant.reads c.in-Ok.ensures.asked c.read_page.ensures.same c.in-Ok.ensures.given c.in-Ok.ensures.count);
    }

pub returns-clause-bytes : goal.returns-clause-bytes
returns-clause-bytes g c = λ tells stands.
    reads-bytes c.args.extent c.pages.index c.pages.buf _ (omega arith) (omega arith)
    (reads-stands _ _ _ c.pages.self _ (g.D.Disk.disk c.pages.disk) tells c.pages.invariant.reads stands).0

pub returns-clause-stays : goal.returns-clause-stays
returns-clause-stays g c = λ tells stands. (reads-stands _ _ _ c.pages.self _ (g.D.Disk.disk c.pages.disk) tells c.pages.invariant.reads stands).1
