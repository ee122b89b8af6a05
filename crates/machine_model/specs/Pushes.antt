-- What a machine's disk shows of its pushes: the bytes shown stand beside each image.
use Rattle.std.specs.Prelude.{◌≡◌, ℕ, ◌≤◌, List, ◌++◌, take, ◌↔◌, Result, Ok, Err}
use Rattle.machine_model.specs.Areas.{Bytes}
use Rattle.machine_model.specs.States.{DiskState, moment}
use Rattle.machine_model.specs.Images.{MayLeave}
use Rattle.machine_model.specs.Moments.{GoesOn, LeavesOnly, LeftSince}
use Rattle.machine_model.specs.declared.area.Failed.{Failed}

-- the second list goes on from the first
abbrev pub IsPrefix : List ℕ → List ℕ → Type 0
IsPrefix front bytes = (rest : List ℕ) × (bytes ≡ front ++ rest)

-- how many bytes a push took
abbrev pub taken : Result ℕ Failed → ℕ
taken (Ok n) = n
taken (Err e) = 0

-- the disk is the same but for its moments, and the images allowed are the same
pub record IsSameBeside (old new : DiskState) : Type 0 where
  pub same : record new { past = old.past; now = old.now } ≡ old
  pub stable : new.now.stable ≡ old.now.stable
  pub pending : new.now.pending ≡ old.now.pending

-- Pushes that led from these bytes shown to those: each image left since was allowed at the start, beside bytes between the two.
pub record OnlyShows (old new : DiskState) (before after : List ℕ) : Type 0 where
  pub goes_on : GoesOn old new
  pub grows : IsPrefix before after
  pub since : LeavesOnly old new (λ image beside. MayLeave old.now image × IsPrefix before beside × IsPrefix beside after)

-- One push of a piece, of which so many bytes were taken: there was one moment for each length up to that, and no other.
pub record IsShownByPiece (before piece : List ℕ) (count : ℕ) (old new : DiskState) : Type 0 where
  pub goes_on : GoesOn old new
  pub images : (image : Bytes) (beside : List ℕ) → (LeftSince new (moment old) image beside
      ↔ (MayLeave old.now image × ((k : ℕ) × (k ≤ count) × (beside ≡ before ++ take k piece))))
