-- The extents of the plans so far.
use Rattle.std.proofs.Common.{◌≡◌, take}
use Rattle.archive_plans.specs.Shelves.{extents_all}
use Rattle.archive_plans.proofs.shelf.live_extents.Given as goal

abbrev pub invariant-loop-stored : goal.invariant-loop-stored
invariant-loop-stored l = l.all.items ≡ extents_all (take l.stored-index l.plans)
