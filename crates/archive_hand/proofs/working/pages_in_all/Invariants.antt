-- The pages of the places so far are counted.
use Rattle.std.proofs.Common.{◌≡◌, take}
use Rattle.pages_sublists.specs.Preparing.{extents}
use Rattle.model_archive.specs.Steps.{pages_in}
use Rattle.archive_hand.proofs.working.pages_in_all.Given as goal

abbrev pub invariant-loop-place : goal.invariant-loop-place
invariant-loop-place l = l.all ≡ pages_in (extents (take l.place-index l.places))
