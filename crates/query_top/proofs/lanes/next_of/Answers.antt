use Rattle.std.proofs.Common.{◌<◌, ◌*◌, length, arith, ap, subst, sym}
use Rattle.query_top.specs.Lanes.{AreAscending}
use Rattle.query_top.specs.declared.lane.Lane.{Lane}
use Rattle.query_top.proofs.EachLemmas.{each-at}
use Rattle.query_top.proofs.LoopLemmas.{given-more}
use Rattle.query_top.proofs.lanes.next_of.Goals as goal

pub loop-lane-preserved : goal.loop-lane-preserved
loop-lane-preserved c =
    let i = c.loop-lane.invariant in
    let test = c.loop-lane-test.true in
    let least = c.min-next.ensures in
    let until = i.until in
    let here : c.loop-lane.lane-index < length c.args.lanes.now = omega arith in
    record {
      until = omega (arith, least, until);
      none = λ asc at x l.
          let more = given-more at x c.loop-lane.lane-index c.args.lanes.now c.lane-item.result here c.lane-item.is in
          let one = subst (λ (k : Lane). AreAscending k.hits.items) (sym c.lane-item.is) (each-at (λ k. AreAscending k.hits.items) c.loop-lane.lane-index c.args.lanes.now c.lane-item.result here asc) in
          let z = c.next_hit.ensures one at x (omega (arith, l, least)) in
          let w = ap (λ n. c.lane-item.result.weight * n) z in
          let was = i.none asc at x (omega (arith, l, least)) in
          omega (arith, more, w, was);
    }
