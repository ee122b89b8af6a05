-- What keeps a disk in step.
use Rattle.std.proofs.Common.{◌≡◌, ℕ, List, ◌∙◌}
use Rattle.machine_model.specs.Areas.{Bytes}
use Rattle.machine_model.specs.States.{DiskState}
use Rattle.machine_model.specs.Images.{MayLeave}
use Rattle.journal_gates.specs.InStep.{IsInStep}

-- images that have the journals of earlier ones
pub stays_in_step : (old new : DiskState) (end : ℕ) (bodies : List (List ℕ)) → IsInStep old end bodies
    → ((image : Bytes) → MayLeave new.now image → (was : Bytes) × MayLeave old.now was × (image.journal ≡ was.journal)) → IsInStep new end bodies
stays_in_step old new end bodies step from = record {
  gate = step.gate;
  shut = step.shut;
  fit = step.fit;
  end_is = step.end_is;
  images = λ image allowed. let w = from image allowed in let is = step.images w.0 w.1 in (is.0, w.2 ∙ is.1);
}
