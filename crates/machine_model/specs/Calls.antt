-- What the calls of a disk do.
use Rattle.std.specs.Prelude.{◌≡◌, ◌⊎◌, ℕ, ◌+◌, ◌-◌, ◌≤◌, max, List, [], ◌∷◌, ◌++◌, length, take, drop, replicate}
use Rattle.machine_model.specs.Areas.{Both, Bytes, part, replaced}
use Rattle.machine_model.specs.States.{DiskState}
use Rattle.machine_model.specs.Images.{Leaves, MayLeave, Only, TornFrom}
use Rattle.machine_model.specs.Moments.{GoesOn, LeavesOnly}
use Rattle.machine_model.specs.declared.area.Area.{Area}

-- an area after a write; a gap behind its old end reads as zeros
abbrev pub written : ℕ → List ℕ → List ℕ → List ℕ
written at bytes old = take at old ++ replicate (at - length old) 0 ++ bytes ++ drop (at + length bytes) old

-- a failed write up to this end: one area may have grown in part, the other has its length
pub record IsPartlyReached (area : Area) (end : ℕ) (old new : Both ℕ) : Type 0 where
  pub elsewhere : (other : Area) → (other ≡ area → ⊥) → part new other ≡ part old other
  pub no_shorter : part old area ≤ part new area
  pub no_longer : part new area ≤ max (part old area) end

-- nothing changed but the count of faults
abbrev pub OnlyFails : DiskState → DiskState → Type 0
OnlyFails old new = new ≡ record old { faults = new.faults }

-- nothing changed but the counts: no image, no byte, no length, no moment
abbrev pub OnlyReads : DiskState → DiskState → Type 0
OnlyReads old new = new ≡ record old { faults = new.faults; bytes_read = new.bytes_read }

-- What a write that was tried does, whether it succeeds or not: its range is pending from its start on. Only a write that
-- failed before it touched anything may leave its range out.
pub record Writes (area : Area) (at n : ℕ) (old new : DiskState) : Type 0 where
  pub goes_on : GoesOn old new
  pub stable : new.now.stable ≡ old.now.stable
  pub pending : (new.now.pending ≡ replaced old.now.pending area (record { at = at; count = n } ∷ part old.now.pending area))
      ⊎ OnlyFails old new
  pub beside : new.now.beside ≡ old.now.beside
  pub during : LeavesOnly old new (λ image beside. Leaves new.now image beside)

-- What a sync that was tried does: until its end the images are those before it.
pub record Syncs (old new : DiskState) : Type 0 where
  pub goes_on : GoesOn old new
  pub holds : new.holds ≡ old.holds
  pub beside : new.now.beside ≡ old.now.beside
  pub during : LeavesOnly old new (λ image beside. Leaves old.now image beside)

-- after a good sync: the bytes that reads give are on the disk
abbrev pub IsSynced : DiskState → DiskState → Type 0
IsSynced old new = (new.now.stable ≡ old.holds) × (new.now.pending ≡ record { journal = []; pages = [] })

-- A write that is synced: each image left since is one allowed before, or one torn in the range.
pub record WritesThrough (area : Area) (at n : ℕ) (old new : DiskState) : Type 0 where
  pub goes_on : GoesOn old new
  pub images : LeavesOnly old new (λ image beside. (was : Bytes) × MayLeave old.now was
      × ((image ≡ was) ⊎ TornFrom area at n was image) × (beside ≡ old.now.beside))

-- And then there is one image, which has these bytes.
pub record Stays (area : Area) (at : ℕ) (bytes : List ℕ) (old new : DiskState) : Type 0 where
  pub holds : new.holds ≡ replaced old.holds area (written at bytes (part old.holds area))
  pub only : Only new.holds new
