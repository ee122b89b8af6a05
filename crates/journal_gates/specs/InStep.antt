-- When a disk is in step with a journal.
use Rattle.std.specs.Prelude.{◌≡◌, ◌≢◌, ℕ, ◌+◌, List, ◌∷◌, ◌++◌, length}
use Rattle.machine_model.specs.Areas.{Bytes}
use Rattle.machine_model.specs.States.{DiskState}
use Rattle.machine_model.specs.Images.{MayLeave}
use Rattle.journal_gates.specs.Records.{open_gate, front, Fit}

-- all images have one journal up to and with the closed gate before this end, and it spells these bodies
pub record IsInStep (d : DiskState) (end : ℕ) (bodies : List (List ℕ)) : Type 0 where
  pub gate : ℕ
  pub shut : gate ≢ open_gate
  pub fit : Fit bodies
  pub end_is : end ≡ length (front bodies) + 1
  pub images : (image : Bytes) → MayLeave d.now image → (rest : List ℕ) × (image.journal ≡ front bodies ++ gate ∷ rest)
