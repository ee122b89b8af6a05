use Rattle.machine_mem.proofs.WrittenLemmas.{AreBytes-from_fits}
use Rattle.machine_mem.proofs.PickLemmas.{filled_both}
use Rattle.machine_mem.proofs.picks.fill_open.Goals as goal

pub returns-clause-filled : goal.returns-clause-filled
returns-clause-filled c = filled_both _ _ _ _ _ _ c.stamp_ranges.ensures c.stamp.ensures

pub returns-clause-bytes : goal.returns-clause-bytes
returns-clause-bytes c = AreBytes-from_fits _ c.type_inv.bytes
