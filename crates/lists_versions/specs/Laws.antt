-- What follows from the definitions of changes.
use Rattle.std.specs.Prelude.{◌≡◌, ◌↔◌, ◌≢◌, ◌<◌, ◌≤◌, ℕ, List, [], ◌∷◌, ◌++◌, None, IsSome, All, Contains}
use Rattle.base_types.specs.declared.ids.DocId.{DocId}
use Rattle.lists_versions.specs.declared.change.Change.{Change}
use Rattle.lists_versions.specs.Changes.{changes_of, held_at, alive}

-- What a document holds at a time where one change more comes behind others.
pub record HeldAsChangesCome (A : Type 0) : Type 0 where
  -- without a change of its own it holds nothing
  pub none : (doc : DocId) (t : ℕ) (changes : List (Change A)) → All (λ c. c.doc.0 ≢ doc.0) changes → held_at doc t changes ≡ None
  -- a change of another document leaves what it holds
  pub other : (doc : DocId) (t : ℕ) (changes : List (Change A)) (c : Change A) → c.doc.0 ≢ doc.0
      → held_at doc t (changes ++ c ∷ []) ≡ held_at doc t changes
  -- so does a change at a later time
  pub later : (doc : DocId) (t : ℕ) (changes : List (Change A)) (c : Change A) → t < c.at.seconds
      → held_at doc t (changes ++ c ∷ []) ≡ held_at doc t changes
  -- where none of its changes is later, it holds what the last one does
  pub last : (doc : DocId) (t : ℕ) (changes : List (Change A)) (c : Change A) → c.doc.0 ≡ doc.0
      → All (λ d. d.at.seconds ≤ t) (changes_of doc changes) → c.at.seconds ≤ t → held_at doc t (changes ++ c ∷ []) ≡ c.held

-- The documents that are alive at a time are those of which something is held then.
abbrev pub TheAliveHoldSomething : Type 0 → Type 0
TheAliveHoldSomething A = (t : ℕ) (changes : List (Change A)) (doc : DocId)
    → (Contains (alive t changes) doc ↔ IsSome (held_at doc t changes))
