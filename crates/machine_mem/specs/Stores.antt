-- What is held of one area.
use Rattle.std.specs.Prelude.{◌≡◌, ℕ, ◌≤◌, ◌^◌, List, length}
use Rattle.machine_model.specs.Images.{IsAllowed, AreBytes, furthest}
use Rattle.machine_model.specs.declared.range.Range.{Range}

-- what a stop may leave of an area: the bytes as last written are one image of it, and the longest
pub record IsSound (stable : List ℕ) (pending : List Range) (written : List ℕ) : Type 0 where
  pub bytes : AreBytes stable
  pub allowed : IsAllowed stable pending written
  pub whole : length written ≡ furthest (length stable) pending
  pub limit : length written ≤ 2 ^ 40
