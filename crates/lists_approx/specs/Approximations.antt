-- What approximates a list.
use Rattle.std.specs.Prelude.{◌≡◌, ℕ, ◌*◌, ◌<◌, ◌≤◌, List, length, Contains}
use Rattle.std.specs.Int.{abs_diff}
use Rattle.base_types.specs.declared.posting.Posting.{Posting}
use Rattle.lists_postings.specs.Lists.{IsList, frequency}
use Rattle.base_types.specs.declared.tolerance.Tolerance.{Tolerance}

-- The frequency r is near p: they differ by at most the tolerance's part of p. As that is below the whole, r is 0 exactly where p is.
abbrev pub IsNear : Tolerance → ℕ → ℕ → Type 0
IsNear tolerance r p = abs_diff p r * tolerance.whole ≤ tolerance.part * p

-- A list approximates another: each document has a posting in it exactly when it has one in the other, and the frequency is near then.
abbrev pub Approximates : Tolerance → List Posting → List Posting → Type 0
Approximates tolerance other list = (d t : ℕ) → IsNear tolerance (frequency d t other) (frequency d t list)

-- The frequency r is near each that the list gives document d in [a, b).
abbrev pub IsNearAll : Tolerance → List Posting → ℕ → ℕ → ℕ → ℕ → Type 0
IsNearAll tolerance list d a b r = (t : ℕ) → a ≤ t → t < b → IsNear tolerance r (frequency d t list)

-- The list short approximates the list; each of its postings ends as late as one that begins there does in any list that
-- approximates it, and has the least frequency that is near all of the list's in its span.
pub record IsLongestFirst (tolerance : Tolerance) (list short : List Posting) : Type 0 where
  pub ordered : IsList short
  pub near : Approximates tolerance short list
  pub longest : (other : List Posting) (p q : Posting) → IsList other → Approximates tolerance other list → Contains short p
      → Contains other q
      → q.doc.0 ≡ p.doc.0 → q.span.from ≡ p.span.from → q.span.to ≤ p.span.to
  pub least : (p : Posting) (r : ℕ) → Contains short p → IsNearAll tolerance list p.doc.0 p.span.from p.span.to r → p.tf ≤ r

-- No list that approximates the list is shorter than short.
abbrev pub IsFewest : Tolerance → List Posting → List Posting → Type 0
IsFewest tolerance list short = (other : List Posting) → IsList other → Approximates tolerance other list → length short ≤ length other
