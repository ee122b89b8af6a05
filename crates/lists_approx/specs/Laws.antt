-- What follows from the definition of approximations.
use Rattle.std.specs.Prelude.{◌≡◌, ◌↔◌, ℕ, ◌+◌, ◌*◌, List}
use Rattle.base_types.specs.declared.posting.Posting.{Posting}
use Rattle.lists_postings.specs.Lists.{IsList, SameRows}
use Rattle.lists_approx.specs.Approximations.{IsNear, IsLongestFirst, IsFewest}
use Rattle.base_types.specs.declared.tolerance.Tolerance.{Tolerance}

-- A list has at most one longest-first approximation.
abbrev pub OneLongestFirst : Type 0
OneLongestFirst = (tolerance : Tolerance) (list one other : List Posting) → IsLongestFirst tolerance list one
    → IsLongestFirst tolerance list other → one ≡ other

-- Each list has one.
abbrev pub EachHasALongestFirst : Type 0
EachHasALongestFirst = (tolerance : Tolerance) (list : List Posting) → IsList list → (short : List Posting)
    × IsLongestFirst tolerance list short

-- Postings with the same rows at each time have the same longest-first approximation, in whatever order they stand.
abbrev pub LongestFirstIsOfRows : Type 0
LongestFirstIsOfRows = (tolerance : Tolerance) (list other short : List Posting) → SameRows list other
    → IsLongestFirst tolerance list short → IsLongestFirst tolerance other short

-- A longest-first approximation is fewest.
abbrev pub LongestFirstIsFewest : Type 0
LongestFirstIsFewest = (tolerance : Tolerance) (list short : List Posting) → IsLongestFirst tolerance list short
    → IsFewest tolerance list short

-- A frequency that is near another is 0 exactly where that is.
abbrev pub NearIsThere : Type 0
NearIsThere = (tolerance : Tolerance) (r p : ℕ) → IsNear tolerance r p → (r ≡ 0) ↔ (p ≡ 0)

-- Near by a weight, and near by a sum: so a score, a sum of weights times frequencies, is near where each frequency is.
abbrev pub NearOfSums : Type 0
NearOfSums =
    (tolerance : Tolerance) → ((w r p : ℕ) → IsNear tolerance r p → IsNear tolerance (w * r) (w * p))
    × ((r s p q : ℕ) → IsNear tolerance r p → IsNear tolerance s q → IsNear tolerance (r + s) (p + q))
