use Rattle.std.proofs.Common.{refl, ap, sym, ◌∙◌, arith}
use Rattle.pages_area.specs.Wrote.{ranges_of}
use Rattle.pages_area.proofs.ChangeLemmas.{changes_then_sync}
use Rattle.pages_sublists.specs.Preparing.{pieces_of}
use Rattle.pages_sublists.proofs.WriteLemmas.{pieces_from, written_none, pieces_at, pieces_end, written_more, changed_so_far, changed_more, all_stored, all_inside, as_many, for_at}
use Rattle.pages_sublists.proofs.prepared.write_all.Goals as goal

pub loop-k-init : goal.loop-k-init
loop-k-init g c = record {
  only = g.met.D.Disk.only_same _;
  later = omega arith;
  journal = refl;
  read = λ tells. refl;
  written = written_none g.D.Disk.disk_tells (g.D.Disk.disk c.args.disk.now) (pieces_of c.args.places.now c.args.spellings.now);
}

pub bounds-spellings-k : goal.bounds-spellings-k
bounds-spellings-k g c = omega (arith, as_many c.args.places.now c.args.spellings.now c.requires.each, c.loop-k-test.true)

pub write_extent-requires : goal.write_extent-requires
write_extent-requires g c = sym (for_at c.args.places.now c.args.spellings.now c.loop-k.k c.index-places-k.result _ c.bytes-bytes.result.now c.requires.each c.loop-k-test.true c.index-spellings-k.is c.bytes-bytes.ensures).size

pub returns-in_err-write_extent-clause-images : goal.returns-in_err-write_extent-clause-images
returns-in_err-write_extent-clause-images g c = λ tells.
    let next = pieces_at c.args.places.now c.args.spellings.now c.loop-k.k c.index-places-k.result _ c.bytes-bytes.result.now c.requires.each c.loop-k-test.true c.index-spellings-k.is c.bytes-bytes.ensures in
    changed_more g.D.Disk.disk_tells (g.D.Disk.disk c.args.disk.now) (g.D.Disk.disk c.loop-k.disk) (g.D.Disk.disk c.write_extent.new.disk) _ _ _ _ next c.write_extent.ensures.images c.loop-k.invariant.written tells

pub loop-k-preserved : goal.loop-k-preserved
loop-k-preserved g c =
    let next = pieces_at c.args.places.now c.args.spellings.now c.loop-k.k c.index-places-k.result _ c.bytes-bytes.result.now c.requires.each c.loop-k-test.true c.index-spellings-k.is c.bytes-bytes.ensures in
    let mine = for_at c.args.places.now c.args.spellings.now c.loop-k.k c.index-places-k.result _ c.bytes-bytes.result.now c.requires.each c.loop-k-test.true c.index-spellings-k.is c.bytes-bytes.ensures in
    let was = c.loop-k.invariant in
    record {
      only = g.met.D.Disk.only_joins _ _ _ was.only c.write_extent.ensures.only;
      later = omega (arith, was.later, c.write_extent.ensures.cause.later);
      journal = c.write_extent.ensures.journal ∙ was.journal;
      read = λ tells. c.write_extent.ensures.read tells ∙ was.read tells;
      written = written_more g.D.Disk.disk_tells (g.D.Disk.disk c.args.disk.now) (g.D.Disk.disk c.loop-k.disk) (g.D.Disk.disk c.write_extent.new.disk) _ _ _ _
          c.requires.apart mine.empty next c.in_ok-write_extent.ensures.reach c.write_extent.ensures.images c.in_ok-write_extent.ensures.wrote was.written;
    }

pub returns-in_err-sync-clause-images : goal.returns-in_err-sync-clause-images
returns-in_err-sync-clause-images g c = λ tells.
    let places = c.args.places.now in
    let all = c.args.spellings.now in
    changes_then_sync (ranges_of (pieces_of places all)) (changed_so_far g.D.Disk.disk_tells (g.D.Disk.disk c.args.disk.now) (g.D.Disk.disk c.loop-k.disk) (pieces_from places all c.loop-k.k) (pieces_of places all) c.loop-k.invariant.written tells) (c.sync.ensures.images tells)

pub returns-clause-inside : goal.returns-clause-inside
returns-clause-inside g c =
    let places = c.args.places.now in
    let all = c.args.spellings.now in
    all_inside g.D.Disk.disk_tells (g.D.Disk.disk c.args.disk.now) (g.D.Disk.disk c.loop-k.disk) (g.D.Disk.disk c.sync.new.self).reach.pages (pieces_from places all c.loop-k.k) places all
    (pieces_end places all c.loop-k.k (omega (arith, c.loop-k-test.false))) (ap (λ x. x.pages) c.sync.ensures.reach) c.requires.each c.loop-k.invariant.written

pub returns-clause-images : goal.returns-clause-images
returns-clause-images g c = λ tells.
    let places = c.args.places.now in
    let all = c.args.spellings.now in
    changes_then_sync (ranges_of (pieces_of places all)) (changed_so_far g.D.Disk.disk_tells (g.D.Disk.disk c.args.disk.now) (g.D.Disk.disk c.loop-k.disk) (pieces_from places all c.loop-k.k) (pieces_of places all) c.loop-k.invariant.written tells) (c.sync.ensures.images tells)

pub returns-clause-stored : goal.returns-clause-stored
returns-clause-stored g c = λ tells.
    let places = c.args.places.now in
    let all = c.args.spellings.now in
    all_stored g.D.Disk.disk_tells (g.D.Disk.disk c.args.disk.now) (g.D.Disk.disk c.loop-k.disk) (g.D.Disk.disk c.sync.new.self) (pieces_from places all c.loop-k.k) (pieces_of places all)
    (pieces_end places all c.loop-k.k (omega (arith, c.loop-k-test.false))) (c.sync.ensures.images tells) (c.in_ok-sync.ensures.durable tells) c.loop-k.invariant.written tells
