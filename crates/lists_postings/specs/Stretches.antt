-- The longest stretches of time in which one thing is so of a document.
use Rattle.std.specs.Prelude.{◌≡◌, ◌≢◌, ◌⊎◌, ℕ, ◌-◌, ◌<◌, ◌≤◌, List, Contains, Option, Some}
use Rattle.lists_postings.specs.Lists.{EachNext}

-- How an element of a list is read: as a document, a stretch of time that isn't empty, and what is so in it.
pub record Kind (R V : Type 0) : Type 0 where
  pub doc : R → ℕ
  pub from : R → ℕ
  pub to : R → ℕ
  pub value : R → V
  pub some : (r : R) → from r < to r

-- p stands before q: in an earlier document, or in the same one and over when q begins.
abbrev pub Before : {R V : Type 0} → Kind R V → R → R → Type 0
Before k p q = (k.doc p < k.doc q) ⊎ ((k.doc p ≡ k.doc q) × (k.to p ≤ k.from q))

-- The stretch is one of the longest inside [a, b) at whose every time f says the same of its document (first) at the time (second).
pub record IsLongest {R V : Type 0} (k : Kind R V) (f : ℕ → ℕ → Option V) (a b : ℕ) (r : R) : Type 0 where
  pub begins : a ≤ k.from r
  pub ends : k.to r ≤ b
  pub same : (t : ℕ) → k.from r ≤ t → t < k.to r → f (k.doc r) t ≡ Some (k.value r)
  pub new : (k.from r ≡ a) ⊎ (f (k.doc r) (k.from r - 1) ≢ Some (k.value r))
  pub over : (k.to r ≡ b) ⊎ (f (k.doc r) (k.to r) ≢ Some (k.value r))

-- The longest stretches inside [a, b), in the order of document and start: each time in [a, b) at which f says something of a
-- document is in one of them.
pub record AreStretches {R V : Type 0} (k : Kind R V) (f : ℕ → ℕ → Option V) (a b : ℕ) (rows : List R) : Type 0 where
  pub ordered : EachNext (Before k) rows
  pub longest : (r : R) → Contains rows r → IsLongest k f a b r
  pub covered : (d t : ℕ) (v : V) → a ≤ t → t < b → f d t ≡ Some v → (r : R) × Contains rows r × (k.doc r ≡ d) × (k.from r ≤ t)
      × (t < k.to r)
