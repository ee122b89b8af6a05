use Rattle.std.proofs.Common.{arith}
use Rattle.archive_plans.proofs.ShelfLemmas.{extents_more}
use Rattle.archive_plans.proofs.shelf.live_extents.Goals as goal

pub loop-stored-preserved : goal.loop-stored-preserved
loop-stored-preserved c =
    let more = extents_more c.args.plans.now c.loop-stored.stored-index c.stored-item.result (omega arith) c.stored-item.is in
    let added = c.in_ok-push_extents.ensures in
    let places = c.as_slice.ensures in
    cc
