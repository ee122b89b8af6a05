-- The documents that are alive at a time are those of which something is held then.
use Rattle.std.proofs.Common.{◌≡◌, ◌⊎◌, ◌↔◌, ℕ, ◌==◌, Bool, true, false, cond, nat_lt, List, [], ◌∷◌, fold, Contains, Option, Some, None, IsSome, is_some, refl, sym, ap, subst, inl, inr}
use Rattle.std.proofs.lemmas.Bool.Decides.{eqb_tells}
use Rattle.base_types.specs.declared.ids.DocId.{DocId}
use Rattle.lists_postings.proofs.Elements.{here, later, here-or-later, none, filter-in, filter-from}
use Rattle.lists_versions.specs.declared.change.Change.{Change}
use Rattle.lists_versions.specs.Changes.{changes_of, valid_at, held_at, put, documents, alive}

same-document : (d e : DocId) → d.0 == e.0 ≡ true → d ≡ e
same-document d e i = elim (eqb_tells d.0 e.0) [ inl y ↦ ap {B = DocId} (λ n. record { 0 = n }) y.1 | inr n ↦ absurd (let two = n.0 in cc) ]

-- a document put among others is there, and those are there still
put-adds : (d : DocId) (es : List DocId) → Contains (put d es) d
put-adds d [] = here d []
put-adds d (e ∷ es) = go (nat_lt d.0 e.0) (d.0 == e.0) refl (put-adds d es)
  where
    go : (a b : Bool) → d.0 == e.0 ≡ b → Contains (put d es) d → Contains (cond a (d ∷ e ∷ es) (cond b (e ∷ es) (e ∷ put d es))) d
    go true b i more = here d (e ∷ es)
    go false true i more = subst (λ x. Contains (e ∷ es) x) (sym (same-document d e i)) (here e es)
    go false false i more = later e d (put d es) more

put-keeps : (d doc : DocId) (es : List DocId) → Contains es doc → Contains (put d es) doc
put-keeps d doc [] c = absurd (none doc c)
put-keeps d doc (e ∷ es) c = go (nat_lt d.0 e.0) (d.0 == e.0) (here-or-later e doc es c) (λ k. put-keeps d doc es k)
  where
    go : (a b : Bool) → (e ≡ doc) ⊎ Contains es doc → (Contains es doc → Contains (put d es) doc) → Contains (cond a (d ∷ e ∷ es) (cond b (e ∷ es) (e ∷ put d es))) doc
    go true b o more = later d doc (e ∷ es) c
    go false true o more = c
    go false false (inl i) more = subst (λ x. Contains (e ∷ put d es) x) i (here e (put d es))
    go false false (inr k) more = later e doc (put d es) (more k)

kept : {A : Type 0} (doc : DocId) (found : List DocId) (cs : List (Change A)) → Contains found doc → Contains (fold (λ (f : List DocId) (c : Change A). put c.doc f) found cs) doc
kept doc found [] c = c
kept doc found (x ∷ cs) c = kept doc (put x.doc found) cs (put-keeps x.doc doc found c)

-- a document that changed is one of those that ever did
changed : {A : Type 0} (doc : DocId) (found : List DocId) (cs : List (Change A)) → (changes_of doc cs ≡ [] → ⊥) → Contains (fold (λ (f : List DocId) (c : Change A). put c.doc f) found cs) doc
changed doc found [] some = absurd (some refl)
changed {A} doc found (x ∷ cs) some = go (x.doc.0 == doc.0) refl some (λ s. changed doc (put x.doc found) cs s)
  where
    go : (b : Bool) → x.doc.0 == doc.0 ≡ b → (cond b (x ∷ changes_of doc cs) (changes_of doc cs) ≡ [] → ⊥)
        → ((changes_of doc cs ≡ [] → ⊥) → Contains (fold (λ (f : List DocId) (c : Change A). put c.doc f) (put x.doc found) cs) doc) → Contains (fold (λ (f : List DocId) (c : Change A). put c.doc f) (put x.doc found) cs) doc
    go true e s more = kept doc (put x.doc found) cs (subst (λ d. Contains (put x.doc found) d) (same-document x.doc doc e) (put-adds x.doc found))
    go false e s more = more s

held-changed : {A : Type 0} (doc : DocId) (t : ℕ) (cs : List (Change A)) → IsSome (held_at doc t cs) → changes_of doc cs ≡ [] → ⊥
held-changed {A} doc t cs some none = let P : List (Change A) → Type 0 = λ l. IsSome (valid_at t l) in absurd (let bad = subst P none some in cc)

some-is : {A : Type 0} (o : Option A) → (is_some o ≡ true) ↔ IsSome o
some-is None = (λ e. absurd cc, λ s. absurd cc)
some-is (Some x) = (λ e. refl, λ s. refl)

pub alive-has : {A : Type 0} (t : ℕ) (cs : List (Change A)) (doc : DocId) → Contains (alive t cs) doc ↔ IsSome (held_at doc t cs)
alive-has t cs doc = (
  λ c. (some-is (held_at doc t cs)).0 (filter-from (λ d. is_some (held_at d t cs)) doc (documents cs) c).1,
  λ s. filter-in (λ d. is_some (held_at d t cs)) doc (documents cs) (changed doc [] cs (held-changed doc t cs s)) ((some-is (held_at doc t cs)).1 s),
)
