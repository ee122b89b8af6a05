-- Walks back through a document's changes, as far as a time.
use Rattle.std.specs.Prelude.{◌≡◌, ℕ, ◌+◌, ◌≤◌, List, take, slice_get, IsSomeAnd, Contains}
use Rattle.base_types.specs.declared.ids.DocId.{DocId}
use Rattle.lists_versions.specs.declared.change.Change.{Change}

-- a place of the document's changes
abbrev pub IsOf : {A : Type 0} → DocId → List (Change A) → ℕ → Type 0
IsOf doc log i = IsSomeAnd (slice_get log i) (λ c. c.doc ≡ doc)

-- j is a place of the document's changes, not behind i, and of those up to i that aren't behind the time none is behind j
pub record IsReached {A : Type 0} (doc : DocId) (t : ℕ) (log : List (Change A)) (i j : ℕ) : Type 0 where
  pub back : j ≤ i
  pub of : IsOf doc log j
  pub rest : (c : Change A) → Contains (take (i + 1) log) c → c.doc ≡ doc → c.at.seconds ≤ t → Contains (take (j + 1) log) c

-- each of the document's changes up to i is behind the time
abbrev pub AreBehind : {A : Type 0} → DocId → ℕ → List (Change A) → ℕ → Type 0
AreBehind doc t log i = (c : _) → Contains (take (i + 1) log) c → c.doc ≡ doc → c.at.seconds ≤ t → ⊥
