-- What a journal spells.
use Rattle.std.specs.Prelude.{◌≡◌, ◌≢◌, ◌⊎◌, ℕ, ◌≤◌, List, [], ◌∷◌, ◌++◌, length}
use Rattle.machine_model.specs.Areas.{Bytes}
use Rattle.machine_model.specs.States.{DiskState}
use Rattle.machine_model.specs.Images.{MayLeave}
use Rattle.journal_gates.specs.Records.{new_bytes, open_gate, front, Fit}

-- the header, the records of these bodies, a closed gate, and then any bytes
pub record SpellsLong (bytes : List ℕ) (bodies : List (List ℕ)) : Type 0 where
  pub gate : ℕ
  pub rest : List ℕ
  pub shut : gate ≢ open_gate
  pub fit : Fit bodies
  pub whole : bytes ≡ front bodies ++ gate ∷ rest

-- A journal of at most 17 bytes is new and spells no body. (So does one of 17 bytes that is a header and a closed gate.)
abbrev pub Spells : List ℕ → List (List ℕ) → Type 0
Spells bytes bodies = ((length bytes ≤ new_bytes) × (bodies ≡ [])) ⊎ SpellsLong bytes bodies

-- each image that a stop may leave now spells these bodies
abbrev pub EachSpells : DiskState → List (List ℕ) → Type 0
EachSpells d bodies = (image : Bytes) → MayLeave d.now image → Spells image.journal bodies
