-- The extents of the places so far stand behind what was there.
use Rattle.std.proofs.Common.{◌≡◌, ◌++◌, take}
use Rattle.pages_sublists.specs.Preparing.{extents}
use Rattle.archive_plans.proofs.shelf.push_extents.Given as goal

abbrev pub invariant-loop-place : goal.invariant-loop-place
invariant-loop-place l = l.all.items ≡ l.initial.all.items ++ extents (take l.place-index l.places)
