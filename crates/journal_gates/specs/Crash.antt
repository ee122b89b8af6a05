-- What a stop at any moment of a call leaves.
use Rattle.std.specs.Prelude.{◌≡◌, ◌⊎◌, ℕ, List, [], ◌∷◌, ◌++◌}
use Rattle.machine_model.specs.Areas.{Bytes}
use Rattle.machine_model.specs.States.{DiskState}
use Rattle.machine_model.specs.Images.{MayLeave}
use Rattle.machine_model.specs.Moments.{GoesOn, LeavesOnly}
use Rattle.journal_gates.specs.Spelled.{Spells}

-- each image left since spells these bodies, or these and the new one; what stands beside it is as it was
pub record Appends (bodies : List (List ℕ)) (body : List ℕ) (old new : DiskState) : Type 0 where
  pub goes_on : GoesOn old new
  pub images : LeavesOnly old new (λ image beside.
      (Spells image.journal bodies ⊎ Spells image.journal (bodies ++ body ∷ [])) × (beside ≡ old.now.beside))

-- each image left since spells these bodies; what stands beside it is as it was
pub record KeepsBodies (bodies : List (List ℕ)) (old new : DiskState) : Type 0 where
  pub goes_on : GoesOn old new
  pub images : LeavesOnly old new (λ image beside. Spells image.journal bodies × (beside ≡ old.now.beside))

-- each image left since has pages that were allowed at the start; what stands beside it is as it was
pub record KeepsPages (old new : DiskState) : Type 0 where
  pub goes_on : GoesOn old new
  pub images : LeavesOnly old new (λ image beside.
      (was : Bytes) × MayLeave old.now was × (image.pages ≡ was.pages) × (beside ≡ old.now.beside))
