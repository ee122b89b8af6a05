-- Where the test of a bound on space looks in the boundaries.
use Rattle.std.specs.Prelude.{ℕ, ◌-◌, ◌<◌, ◌≤◌, List, length, slice_index}

-- Place k has the first of the times that is after t, and one isn't.
pub record IsNext (times : List ℕ) (t k : ℕ) : Type 0 where
  pub behind : 0 < k
  pub inside : k < length times
  pub to : slice_index times (k - 1) ≤ t
  pub after : t < slice_index times k
