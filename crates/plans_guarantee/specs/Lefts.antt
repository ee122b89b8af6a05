-- The cheapest last segments to a boundary.
use Rattle.std.specs.Prelude.{ℕ, ◌+◌, ◌-◌, ◌<◌, ◌≤◌, List, length, slice_index}
use Rattle.plans_partitions.specs.Counts.{Counts, size_between}

-- The number at boundary i and the size of the one segment from there to the last boundary.
abbrev pub cost_to_end : Counts → List ℕ → ℕ → ℕ
cost_to_end table pi i = slice_index pi i + size_between table i (length table.boundaries - 1)

-- Of the segments to boundary k from boundary low and later ones, the one from left costs least, with the number at
-- its left end.
pub record IsCheapest (table : Counts) (pi : List ℕ) (low k left : ℕ) : Type 0 where
  pub after : low ≤ left
  pub before : left < k
  pub none_cheaper : (j : ℕ) → low ≤ j → j < k → slice_index pi left + size_between table left k ≤ slice_index pi j + size_between table j k
