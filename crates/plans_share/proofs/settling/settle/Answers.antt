use Rattle.std.proofs.Common.{◌+◌}
use Rattle.plans_share.proofs.Rows.{rows-more, next-row}
use Rattle.plans_share.proofs.settling.settle.Goals as goal

pub loop-i-preserved : goal.loop-i-preserved
loop-i-preserved c =
    rows-more c.args.offers.now (c.args.budget + 1) (c.loop-i.i + 1) c.loop-i.rows.items c.push-in-loop-i.new.self.items c.in_ok-next.next c.in_ok-push-2.ensures.items
    (next-row c.args.offers.now (c.args.budget + 1) c.loop-i.i c.loop-i.rows.items c.index.result.now c.index-offers-offers.result c.deref.result.now c.in_ok-next.next.items c.loop-i-test.true c.loop-i.invariant c.index.ensures c.deref.ensures.value c.index-offers-offers.is c.in_ok-next.ensures)
    c.loop-i.invariant
