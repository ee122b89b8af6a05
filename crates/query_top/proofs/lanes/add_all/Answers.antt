use Rattle.std.proofs.Common.{◌≡◌, ◌+◌, ◌*◌, ◌<◌, length, drop, take, arith, subst, sym}
use Rattle.query_top.specs.Lanes.{AreAscending, IsPassed, tally, given}
use Rattle.query_top.specs.declared.lane.Lane.{Lane}
use Rattle.query_top.proofs.EachLemmas.{each-at}
use Rattle.query_top.proofs.LoopLemmas.{left-set, left-at, given-more, zip-turn}
use Rattle.query_top.proofs.lanes.add_all.Goals as goal

pub loop-lane-preserved : goal.loop-lane-preserved
loop-lane-preserved c =
    let i = c.loop-lane.invariant in
    let long = c.loop-lane.auto.lanes in
    let wide = c.loop-lane.auto.sums in
    let test = c.loop-lane-test.true in
    let here : c.loop-lane.lane-index < length c.loop-lane.lanes = omega arith in
    let there : c.loop-lane.lane-index < length c.args.lanes.now = omega arith in
    let is = left-at c.loop-lane.lane-index c.loop-lane.lanes c.args.lanes.now c.lane-item.result here there i.todo c.lane-item.is in
    record {
      todo = left-set c.loop-lane.lane-index c.loop-lane.lanes c.args.lanes.now c.add.new.self c.lane-item.result here there i.todo;
      sums = λ asc k l room.
          let m : k < length c.loop-lane.sums = omega arith in
          let less = given-more c.args.at.seconds (c.args.from + k) c.loop-lane.lane-index c.args.lanes.now c.lane-item.result there is in
          let more = subst (λ (x : Lane). given c.args.at.seconds (c.args.from + k) (take (c.loop-lane.lane-index + 1) c.args.lanes.now) ≡ given c.args.at.seconds (c.args.from + k) (take c.loop-lane.lane-index c.args.lanes.now) + x.weight * tally c.args.at.seconds (c.args.from + k) (drop x.cursor x.hits.items)) c.lane-item.is less in
          let was = i.sums asc k m (omega (arith, more, room)) in
          let one : AreAscending c.lane-item.result.hits.items = subst (λ (x : Lane). AreAscending x.hits.items) (sym is) (each-at (λ lane. AreAscending lane.hits.items) c.loop-lane.lane-index c.args.lanes.now c.lane-item.result there asc) in
          let now = c.add.ensures.sums (subst (λ (x : Lane). AreAscending x.hits.items) c.lane-item.is one) k m (omega (arith, more, was, room)) in
          omega (arith, more, was, now);
      passed = zip-turn (IsPassed c.args.at.seconds (c.args.from + length c.args.sums.now)) c.loop-lane.lane-index c.loop-lane.lanes c.args.lanes.now c.lane-item.result c.add.new.self here there i.todo c.lane-item.is
          (record { same = c.add.ensures.same; cursor = c.add.ensures.cursor; left = λ asc x l. c.add.ensures.left asc x (omega (arith, l, wide)) }) i.passed;
    }
