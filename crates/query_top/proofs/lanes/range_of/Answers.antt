use Rattle.std.proofs.Common.{◌<◌, length, arith}
use Rattle.query_top.proofs.LoopLemmas.{greatest-more, range-more}
use Rattle.query_top.proofs.lanes.range_of.Goals as goal

pub loop-p-preserved : goal.loop-p-preserved
loop-p-preserved c =
    let i = c.loop-p.invariant in
    let test = c.loop-p-test.true in
    let here : c.loop-p.p-index < length c.args.list.now = omega arith in
    let doc = c.from-doc.ensures in
    let least = c.min.ensures in
    let most = c.max.ensures in
    let top = c.max-in-loop-p.ensures in
    let number = c.p-item.result.numbered in
    let g = greatest-more c.loop-p.p-index c.args.list.now c.p-item.result here c.p-item.is in
    let was = i.top in
    let ends = i.ends in
    record {
      docs = range-more c.loop-p.p-index c.loop-p.range.from c.loop-p.range.to c.min.result c.max.result c.args.list.now c.p-item.result here c.p-item.is i.docs (omega (arith, least)) (omega (arith, most)) (omega (arith, least, doc)) (omega (arith, most, doc));
      top = omega (arith, g, top, was);
      ends = omega (arith, most, doc, number, ends);
    }
