use Rattle.std.proofs.Common.{◌≡◌, map, take}
use Rattle.archive_follow.specs.Taken.{item_by}
use Rattle.archive_follow.proofs.batching.items_of.Given as goal

abbrev pub invariant-loop-act : goal.invariant-loop-act
invariant-loop-act l = l.items.items ≡ map item_by (take l.act-index l.acts)
