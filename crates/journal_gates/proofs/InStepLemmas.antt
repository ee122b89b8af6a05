-- A disk in step with bodies: where the journal ends, and what each image spells.
use Rattle.std.proofs.Common.{◌≡◌, ◌∙◌, ℕ, List, inr}
use Rattle.machine_model.specs.States.{DiskState}
use Rattle.journal_gates.specs.InStep.{IsInStep}
use Rattle.journal_gates.specs.Spelled.{EachSpells}

pub step_at : {at end : ℕ} {d : DiskState} {bodies : List (List ℕ)} → at ≡ end → IsInStep d end bodies → IsInStep d at bodies
step_at {at} {end} {d} {bodies} same step = record { gate = step.gate; shut = step.shut; fit = step.fit; end_is = same ∙ step.end_is; images = step.images }

-- where each image has one journal in front, it spells its bodies
pub step_spells : (d : DiskState) (end : ℕ) (bodies : List (List ℕ)) → IsInStep d end bodies → EachSpells d bodies
step_spells d end bodies step image allowed = let is = step.images image allowed in
    inr (record { gate = step.gate; rest = is.0; shut = step.shut; fit = step.fit; whole = is.1 })
