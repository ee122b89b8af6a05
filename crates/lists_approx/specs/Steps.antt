-- How far a list is approximated. A run is a posting, whose frequency is the least that is near all that it stands for, and the
-- greatest such frequency.
use Rattle.std.specs.Prelude.{◌≡◌, ◌↔◌, ℕ, ◌+◌, ◌≤◌, List, ◌∷◌, ◌++◌, Contains}
use Rattle.base_types.specs.declared.posting.Posting.{Posting}
use Rattle.lists_postings.specs.Lists.{IsList}
use Rattle.lists_approx.specs.Approximations.{IsNear, IsNearAll, Approximates}
use Rattle.base_types.specs.declared.tolerance.Tolerance.{Tolerance}

-- r is a frequency from the run's least to its greatest
abbrev pub IsIn : ℕ → ℕ → ℕ → Type 0
IsIn least most r = (least ≤ r) × (r ≤ most)

-- q begins where p ends, in p's document
pub record Touches (p q : Posting) : Type 0 where
  pub doc : p.doc.0 ≡ q.doc.0
  pub at : p.span.to ≡ q.span.from

-- the run of one posting
pub record IsBegun (tolerance : Tolerance) (p run : Posting) (most : ℕ) : Type 0 where
  pub doc : run.doc.0 ≡ p.doc.0
  pub from : run.span.from ≡ p.span.from
  pub to : run.span.to ≡ p.span.to
  pub some : run.tf ≤ most
  pub near : (r : ℕ) → IsNear tolerance r p.tf ↔ IsIn run.tf most r

-- the run and the posting p, which goes on where it ends, in one
pub record IsLonger (tolerance : Tolerance) (run : Posting) (most : ℕ) (p next : Posting) (new : ℕ) : Type 0 where
  pub touches : Touches run p
  pub doc : next.doc.0 ≡ p.doc.0
  pub from : next.span.from ≡ run.span.from
  pub to : next.span.to ≡ p.span.to
  pub some : next.tf ≤ new
  pub near : (r : ℕ) → (IsIn run.tf most r × IsNear tolerance r p.tf) ↔ IsIn next.tf new r

-- the posting p can't be put to the run
abbrev pub IsOver : Tolerance → Posting → ℕ → Posting → Type 0
IsOver tolerance run most p = Touches run p → (r : ℕ) → IsIn run.tf most r → IsNear tolerance r p.tf → ⊥

-- A posting of an approximation that can end no later: it has the least frequency that is near all of the list's in its span, and
-- none is near all of them and the next one.
pub record IsClosed (tolerance : Tolerance) (list : List Posting) (p : Posting) : Type 0 where
  pub least : (r : ℕ) → IsNearAll tolerance list p.doc.0 p.span.from p.span.to r → p.tf ≤ r
  pub over : (r : ℕ) → IsNearAll tolerance list p.doc.0 p.span.from (p.span.to + 1) r → ⊥

-- What is done, the run that may still grow, and what is left of the list.
pub record IsUnderWay (tolerance : Tolerance) (list done : List Posting) (run : Posting) (most : ℕ) (left : List Posting) : Type 0 where
  pub ordered : IsList (done ++ run ∷ left)
  pub near : Approximates tolerance (done ++ run ∷ left) list
  pub some : run.tf ≤ most
  pub all : (r : ℕ) → IsNearAll tolerance list run.doc.0 run.span.from run.span.to r ↔ IsIn run.tf most r
  pub closed : (p : Posting) → Contains done p → IsClosed tolerance list p
  pub rest : (p : Posting) → Contains left p → Contains list p
