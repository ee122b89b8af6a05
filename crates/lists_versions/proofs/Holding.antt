-- What is held at a time is what some change holds, or nothing.
use Rattle.std.proofs.Common.{ℕ, ◌==◌, ◌&&◌, Bool, true, false, cond, nat_le, nat_lt, List, [], ◌∷◌, All, Option, None}
use Rattle.std.proofs.lemmas.List.Elements.{All-head, All-tail, All-filter}
use Rattle.base_types.specs.declared.ids.DocId.{DocId}
use Rattle.lists_versions.specs.declared.change.Change.{Change}
use Rattle.lists_versions.specs.Changes.{changes_of, valid_at, held_at}

-- what holds of whatever changes hold, and of nothing, holds of what is held at a time
valid_has : {A : Type 0} (P : Option A → Type 0) (t : ℕ) (cs : List (Change A)) → P None → All (λ c. P c.held) cs → P (valid_at t cs)
valid_has P t [] none all = none
valid_has {A} P t (c ∷ []) none all = go (nat_le c.at.seconds t)
  where
    go : (b : Bool) → P (cond b c.held None)
    go true = All-head (λ c. P c.held) c [] all
    go false = none
valid_has {A} P t (c ∷ d ∷ cs) none all = go (nat_le c.at.seconds t && nat_lt t d.at.seconds) (valid_has P t (d ∷ cs) none (All-tail (λ c. P c.held) c (d ∷ cs) all))
  where
    go : (b : Bool) → P (valid_at t (d ∷ cs)) → P (cond b c.held (valid_at t (d ∷ cs)))
    go true more = All-head (λ c. P c.held) c (d ∷ cs) all
    go false more = more

pub held_has : {A : Type 0} (P : Option A → Type 0) (doc : DocId) (t : ℕ) (cs : List (Change A)) → P None → All (λ c. P c.held) cs → P (held_at doc t cs)
held_has P doc t cs none all = valid_has P t (changes_of doc cs) none (All-filter (λ c. c.doc.0 == doc.0) (λ c. P c.held) cs all)
