-- The list of a frequency that is given at each time.
use Rattle.std.specs.Prelude.{◌≡◌, ◌⊎◌, ℕ, ◌-◌, ◌<◌, ◌≤◌, ◌≢◌, List, All}
use Rattle.base_types.specs.declared.posting.Posting.{Posting}
use Rattle.lists_postings.specs.Lists.{IsList, IsCoalesced, frequency}

-- The list of f over [a, b), where f gives each document (first) and time (second) a frequency: the
-- coalesced list of postings inside [a, b) that has f's frequency at each time of it.
pub record IsListOf (f : ℕ → ℕ → ℕ) (a b : ℕ) (list : List Posting) : Type 0 where
  pub ordered : IsList list
  pub coalesced : IsCoalesced list
  pub inside : All (λ p. (a ≤ p.span.from) × (p.span.to ≤ b)) list
  pub same : (d t : ℕ) → a ≤ t → t < b → frequency d t list ≡ f d t

-- The posting's span is one of the longest inside [a, b) at whose times f gives its document its frequency.
pub record IsLongest (f : ℕ → ℕ → ℕ) (a b : ℕ) (p : Posting) : Type 0 where
  pub begins : a ≤ p.span.from
  pub ends : p.span.to ≤ b
  pub same : (t : ℕ) → p.span.from ≤ t → t < p.span.to → f p.doc.0 t ≡ p.tf
  pub new : (p.span.from ≡ a) ⊎ (f p.doc.0 (p.span.from - 1) ≢ p.tf)
  pub over : (p.span.to ≡ b) ⊎ (f p.doc.0 p.span.to ≢ p.tf)
