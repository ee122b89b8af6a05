-- What a stop at any moment of writes to Pages leaves.
use Rattle.std.specs.Prelude.{◌≡◌, List}
use Rattle.machine_model.specs.Areas.{Bytes}
use Rattle.machine_model.specs.States.{DiskState}
use Rattle.machine_model.specs.Images.{MayLeave}
use Rattle.machine_model.specs.Moments.{GoesOn, LeavesOnly}
use Rattle.machine_model.specs.declared.range.Range.{Range}
use Rattle.pages_area.specs.Ranges.{SameOutside}

-- For each image left since the start there is one that was allowed then, which has the same journal, has no longer Pages, and has
-- the same byte at each place of its Pages outside these ranges; what stands beside it is as it was.
pub record ChangesOnly (ranges : List Range) (old new : DiskState) : Type 0 where
  pub goes_on : GoesOn old new
  pub images : LeavesOnly old new (λ image beside. (was : Bytes) × MayLeave old.now was
      × (image.journal ≡ was.journal) × SameOutside ranges was.pages image.pages × (beside ≡ old.now.beside))
