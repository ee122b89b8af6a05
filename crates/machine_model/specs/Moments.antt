-- The moments of a disk, and what was left since one of them.
use Rattle.std.specs.Prelude.{◌⊎◌, ℕ, ◌≤◌, List, [], ◌∷◌, drop}
use Rattle.machine_model.specs.Areas.{Bytes}
use Rattle.machine_model.specs.States.{Moment, DiskState, moment}
use Rattle.machine_model.specs.Images.{Leaves}

-- one of these moments leaves this image beside these bytes
abbrev pub SomeLeaves : List Moment → Bytes → List ℕ → Type 0
SomeLeaves [] image beside = ⊥
SomeLeaves (m ∷ moments) image beside = Leaves m image beside ⊎ SomeLeaves moments image beside

-- at some moment from that one on, inside a call or between two, this image was allowed beside these bytes
abbrev pub LeftSince : DiskState → ℕ → Bytes → List ℕ → Type 0
LeftSince d since image beside = Leaves d.now image beside ⊎ SomeLeaves (drop since d.past) image beside

-- each image left from one state on to the other, with the bytes beside it then, has this property
abbrev pub LeavesOnly : DiskState → DiskState → (Bytes → List ℕ → Type 0) → Type 0
LeavesOnly old new P = (image : Bytes) (beside : List ℕ) → LeftSince new (moment old) image beside → P image beside

-- Moments compose: what was left since an earlier moment was left before the call, or since its start; and nothing is forgotten.
pub record GoesOn (old new : DiskState) : Type 0 where
  pub later : moment old ≤ moment new
  pub nothing_else : (since : ℕ) (image : Bytes) (beside : List ℕ) → since ≤ moment old →
      LeftSince new since image beside → LeftSince old since image beside ⊎ LeftSince new (moment old) image beside
  pub keeps : (since : ℕ) (image : Bytes) (beside : List ℕ) → since ≤ moment old →
      LeftSince old since image beside ⊎ LeftSince new (moment old) image beside → LeftSince new since image beside
