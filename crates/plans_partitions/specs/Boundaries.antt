-- The boundaries of a posting list.
use Rattle.std.specs.Prelude.{ℕ, ◌≤◌, ◌↔◌, List, ◌∷◌, ◌++◌, map, Contains}
use Rattle.std.specs.List.Sorted.{IsStrictlyIncreasing}
use Rattle.base_types.specs.declared.posting.Posting.{Posting}

-- The horizon, the starts and the ends of a list's spans.
abbrev pub ends : List Posting → ℕ → List ℕ
ends list horizon = horizon ∷ (map (λ p. p.span.from) list ++ map (λ p. p.span.to) list)

-- A time at which a posting of the list begins or ends, or the horizon.
abbrev pub IsBoundary : List Posting → ℕ → ℕ → Type 0
IsBoundary list horizon t = Contains (ends list horizon) t

-- The times are the boundaries, each once, in ascending order. Two neighbours are the ends of an elementary interval.
pub record AreBoundaries (list : List Posting) (horizon : ℕ) (times : List ℕ) : Type 0 where
  pub ascending : IsStrictlyIncreasing times
  pub each : (t : ℕ) → Contains times t ↔ IsBoundary list horizon t

-- The time is a boundary, and no boundary comes before it.
pub record IsFirst (list : List Posting) (horizon f : ℕ) : Type 0 where
  pub is : IsBoundary list horizon f
  pub none_before : (t : ℕ) → IsBoundary list horizon t → f ≤ t
