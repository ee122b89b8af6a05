use Rattle.std.proofs.Common.{arith}
use Rattle.plans_guarantee.proofs.Ways.{way_more}
use Rattle.plans_guarantee.proofs.steps.cuts_back.Goals as goal

pub loop-at-preserved : goal.loop-at-preserved
loop-at-preserved c =
    let falls = c.requires.falling c.loop-at.at in
    record { inside = grind arith; way = grind (arith, way_more) }
