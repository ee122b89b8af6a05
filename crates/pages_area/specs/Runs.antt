-- Pages that extents leave free, and the lowest run of them that is long enough.
use Rattle.std.specs.Prelude.{◌⊎◌, ℕ, ◌+◌, ◌/◌, ◌<◌, ◌≤◌, ◌^◌, List, [], ◌∷◌}
use Rattle.base_types.specs.declared.extent.Extent.{Extent}

-- how many pages so many bytes take
abbrev pub pages_for : ℕ → ℕ
pages_for bytes = (bytes + 4095) / 4096

-- the page is one of an extent's
abbrev pub IsPageOf : Extent → ℕ → Type 0
IsPageOf e p = (e.first ≤ p) × (p < e.first + pages_for e.bytes)

-- the page is in one of these extents
abbrev pub IsTaken : List Extent → ℕ → Type 0
IsTaken [] p = ⊥
IsTaken (e ∷ extents) p = IsPageOf e p ⊎ IsTaken extents p

-- n pages from this one on lie below the limit, and none of them is taken
pub record IsFreeRun (extents : List Extent) (n first : ℕ) : Type 0 where
  pub below : first + n ≤ 2 ^ 28
  pub free : (p : ℕ) → first ≤ p → p < first + n → IsTaken extents p → ⊥

-- this is the lowest free run of n pages
pub record IsLowestRun (extents : List Extent) (n first : ℕ) : Type 0 where
  pub is : IsFreeRun extents n first
  pub lowest : (other : ℕ) → IsFreeRun extents n other → first ≤ other
