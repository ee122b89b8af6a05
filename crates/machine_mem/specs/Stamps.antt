-- Bytes with one byte put into some of their places.
use Rattle.std.specs.Prelude.{◌≡◌, ◌⊎◌, ℕ, ◌<◌, ◌≤◌, List, length, slice_index}
use Rattle.machine_model.specs.Images.{IsUntouched}
use Rattle.machine_model.specs.declared.range.Range.{Range}

-- each place from start up to end has the byte, and the others are as they were
pub record IsStamped (start end byte : ℕ) (old new : List ℕ) : Type 0 where
  pub long : length new ≡ length old
  pub outside : (k : ℕ) → k < length old → (k < start) ⊎ (end ≤ k) → slice_index new k ≡ slice_index old k
  pub inside : (k : ℕ) → k < length old → start ≤ k → k < end → slice_index new k ≡ byte

-- each place of the ranges has the byte, and the others are as they were
pub record IsStampedOver (ranges : List Range) (byte : ℕ) (old new : List ℕ) : Type 0 where
  pub long : length new ≡ length old
  pub outside : (k : ℕ) → k < length old → IsUntouched ranges k → slice_index new k ≡ slice_index old k
  pub inside : (k : ℕ) → k < length old → (IsUntouched ranges k → ⊥) → slice_index new k ≡ byte

-- each place of the ranges and each from the least length on has the byte, and the others are as they were
pub record IsFilled (ranges : List Range) (least byte : ℕ) (old new : List ℕ) : Type 0 where
  pub long : length new ≡ length old
  pub outside : (k : ℕ) → k < length old → k < least → IsUntouched ranges k → slice_index new k ≡ slice_index old k
  pub inside : (k : ℕ) → k < length old → (k < least → IsUntouched ranges k → ⊥) → slice_index new k ≡ byte
