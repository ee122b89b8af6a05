use Rattle.lists_versions.proofs.Indexed.{IsIndexed-reordered}
use Rattle.lists_versions.proofs.directory.Directory.reserve_all.Goals as goal

pub invariant_of-self-2 : goal.invariant_of-self-2
invariant_of-self-2 c = rw (c.in_ok-reserve.ensures.items, c.in_ok-reserve-2.ensures.items) (IsIndexed-reordered _ _ _ _ c.reserve-3.ensures.entries c.self.invariant)
