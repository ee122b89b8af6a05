-- Which of the allowed images of an area is taken.
use Rattle.std.specs.Prelude.{◌≡◌, ℕ, ◌+◌, ◌<◌, ◌≤◌, ◌^◌, min, List, length, slice_index}
use Rattle.machine_model.specs.Images.{IsAllowed, IsUntouched, furthest}
use Rattle.machine_model.specs.declared.range.Range.{Range}
use Rattle.machine_mem.specs.declared.picks.Fill.{Fill}
use Rattle.machine_mem.specs.declared.picks.Fill.TheVariants.{Written, Byte}
use Rattle.machine_mem.specs.declared.picks.Tail.{Tail}

-- a stop leaves the byte at this place open: it lies behind the stable bytes or in a range written since
abbrev pub IsOpen : List ℕ → List Range → ℕ → Type 0
IsOpen stable pending k = k < length stable → IsUntouched pending k → ⊥

-- what stands at an open place
abbrev pub filled : Fill → List ℕ → ℕ → ℕ
filled Written written k = slice_index written k
filled (Byte byte) written k = byte

-- The image of an area that this tail takes: allowed, of the least length and the extra cut to the greatest, with the open bytes filled.
pub record IsTail (stable : List ℕ) (pending : List Range) (written : List ℕ) (tail : Tail) (image : List ℕ) : Type 0 where
  pub allowed : IsAllowed stable pending image
  pub long : length image ≡ min (length stable + tail.extra) (furthest (length stable) pending)
  pub limit : length image ≤ 2 ^ 40
  pub filling : (k : ℕ) → k < length image → IsOpen stable pending k → slice_index image k ≡ filled tail.fill written k
