-- Stretches that are laid one behind the other, and what they say.
use Rattle.std.specs.Prelude.{◌≡◌, ◌≢◌, ◌⊎◌, ℕ, ◌<◌, ◌≤◌, ◌==◌, ◌&&◌, Bool, if◌then◌else◌, nat_le, nat_lt, List, [], ◌∷◌, Option, Some, None}
use Rattle.lists_postings.specs.Lists.{EachNext}
use Rattle.lists_postings.specs.Stretches.{Kind}

-- the element's stretch holds the time t of the document d
abbrev pub holds : {R V : Type 0} → Kind R V → ℕ → ℕ → R → Bool
holds k d t r = (k.doc r == d) && (nat_le (k.from r) t && nat_lt t (k.to r))

-- what a list says of a document at a time
abbrev pub at : {R V : Type 0} → Kind R V → ℕ → ℕ → List R → Option V
at k d t [] = None
at k d t (r ∷ rows) = if holds k d t r then Some (k.value r) else at k d t rows

-- q goes on where p ends
pub record Continues {R V : Type 0} (k : Kind R V) (p q : R) : Type 0 where
  pub doc : k.doc p ≡ k.doc q
  pub at : k.to p ≡ k.from q
  pub value : k.value p ≡ k.value q

-- j is p and q in one
pub record IsJoined {R V : Type 0} (k : Kind R V) (p q j : R) : Type 0 where
  pub doc : k.doc j ≡ k.doc p
  pub from : k.from j ≡ k.from p
  pub to : k.to j ≡ k.to q
  pub value : k.value j ≡ k.value p

-- p stands before q, and q doesn't go on where p ends
abbrev pub Apart : {R V : Type 0} → Kind R V → R → R → Type 0
Apart k p q = (k.doc p < k.doc q) ⊎ ((k.doc p ≡ k.doc q) × ((k.to p < k.from q) ⊎ ((k.to p ≡ k.from q) × (k.value p ≢ k.value q))))

-- the list says what f does, in the fewest stretches
pub record AreLaid {R V : Type 0} (k : Kind R V) (f : ℕ → ℕ → Option V) (rows : List R) : Type 0 where
  pub apart : EachNext (Apart k) rows
  pub same : (d t : ℕ) → at k d t rows ≡ f d t

-- what f says, and one stretch more
abbrev pub with_row : {R V : Type 0} → Kind R V → (ℕ → ℕ → Option V) → R → ℕ → ℕ → Option V
with_row k f r d t = if holds k d t r then Some (k.value r) else f d t

-- f says nothing from where the stretch begins on
abbrev pub IsBehind : {R V : Type 0} → Kind R V → (ℕ → ℕ → Option V) → R → Type 0
IsBehind k f r = (d t : ℕ) → (k.doc r < d) ⊎ ((d ≡ k.doc r) × (k.from r ≤ t)) → f d t ≡ None
