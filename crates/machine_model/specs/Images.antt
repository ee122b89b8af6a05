-- The disk model: which images a stop may leave.
use Rattle.std.specs.Prelude.{◌≡◌, ◌⊎◌, ℕ, ◌+◌, ◌<◌, ◌≤◌, ◌^◌, max, List, [], ◌∷◌, length, slice_index, All}
use Rattle.machine_model.specs.Areas.{Bytes, part}
use Rattle.machine_model.specs.States.{Moment, DiskState}
use Rattle.machine_model.specs.declared.area.Area.{Area}
use Rattle.machine_model.specs.declared.range.Range.{Range}

-- the byte at a place lies in none of the ranges
abbrev pub IsUntouched : List Range → ℕ → Type 0
IsUntouched [] k = Unit {0}
IsUntouched (r ∷ ranges) k = ((k < r.at) ⊎ (r.at + r.count ≤ k)) × IsUntouched ranges k

-- the greatest of a length and the ends of the ranges
abbrev pub furthest : ℕ → List Range → ℕ
furthest n [] = n
furthest n (r ∷ ranges) = max (r.at + r.count) (furthest n ranges)

-- each item is a byte
abbrev pub AreBytes : List ℕ → Type 0
AreBytes bytes = All (λ b. b < 2 ^ 8) bytes

-- What an area may have after a stop: the bytes at the last good sync, but for the ranges written since.
pub record IsAllowed (stable : List ℕ) (pending : List Range) (image : List ℕ) : Type 0 where
  pub no_shorter : length stable ≤ length image
  pub no_longer : length image ≤ furthest (length stable) pending
  pub untouched : (k : ℕ) → k < length stable → IsUntouched pending k → slice_index image k ≡ slice_index stable k
  pub bytes : AreBytes image

-- this image is allowed at that moment
abbrev pub MayLeave : Moment → Bytes → Type 0
MayLeave m image = (a : Area) → IsAllowed (part m.stable a) (part m.pending a) (part image a)

-- this image is allowed at that moment, beside these bytes
abbrev pub Leaves : Moment → Bytes → List ℕ → Type 0
Leaves m image beside = MayLeave m image × (beside ≡ m.beside)

-- no image but this one is allowed now
abbrev pub Only : Bytes → DiskState → Type 0
Only image d = (other : Bytes) → MayLeave d.now other → other ≡ image

-- An area after a write of so many bytes at a place that a stop may have cut short, or of which any part is there.
pub record Torn (at n : ℕ) (old new : List ℕ) : Type 0 where
  pub no_shorter : length old ≤ length new
  pub no_longer : length new ≤ max (length old) (at + n)
  pub untouched : (k : ℕ) → k < length old → (k < at) ⊎ (at + n ≤ k) → slice_index new k ≡ slice_index old k

-- An image after such a write in one area, from one before it; the other area is as it was.
pub record TornFrom (area : Area) (at n : ℕ) (was image : Bytes) : Type 0 where
  pub elsewhere : (other : Area) → (other ≡ area → ⊥) → part image other ≡ part was other
  pub here : Torn at n (part was area) (part image area)
