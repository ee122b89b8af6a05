-- Where the bytes of an extent lie, and what writes to some ranges leave as it was.
use Rattle.std.specs.Prelude.{◌≡◌, ℕ, ◌*◌, ◌<◌, ◌≤◌, List, take, drop, length, slice_index}
use Rattle.base_types.specs.declared.extent.Extent.{Extent}
use Rattle.machine_model.specs.declared.range.Range.{Range}
use Rattle.machine_model.specs.Images.{IsUntouched}

-- the bytes of an extent in Pages
abbrev pub range_of : Extent → Range
range_of e = record { at = e.first * 4096; count = e.bytes }

-- the bytes that stand in an extent
abbrev pub bytes_in : Extent → List ℕ → List ℕ
bytes_in e pages = take e.bytes (drop (e.first * 4096) pages)

-- the pages are no shorter, and each byte that they had outside the ranges is as it was
pub record SameOutside (ranges : List Range) (was pages : List ℕ) : Type 0 where
  pub no_shorter : length was ≤ length pages
  pub same : (k : ℕ) → k < length was → IsUntouched ranges k → slice_index pages k ≡ slice_index was k
