use Rattle.lists_versions.proofs.Indexed.{IsIndexed-reordered}
use Rattle.lists_versions.proofs.directory.Directory.reserve.Goals as goal

-- src/directory.rt:123:5
pub invariant_of-self-2 : goal.invariant_of-self-2
invariant_of-self-2 c = rw (c.in_ok-reserve.ensures.items, c.in_ok-reserve-2.ensures.items) (IsIndexed-reordered _ _ _ _ c.reserve-3.ensures.entries c.self.invariant)
