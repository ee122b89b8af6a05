use Rattle.machine_mem.proofs.PickLemmas.{stamped_more}
use Rattle.machine_mem.proofs.picks.stamp_ranges.Goals as goal

pub loop-range-preserved : goal.loop-range-preserved
loop-range-preserved c =
    stamped_more _ _ _ _ _ _ _ _ c.loop-range-test.true c.loop-range.invariant c.requires c.saturating_add-end.ensures c.stamp.ensures
