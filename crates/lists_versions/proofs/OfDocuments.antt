-- The events of some documents, and when what is said of them changes.
use Rattle.std.specs.Prelude.{◌≡◌, ◌⊎◌, ℕ, ◌<◌, ◌≤◌, ◌==◌, Bool, true, false, if◌then◌else◌, List, [], ◌∷◌, ◌++◌, Contains, None, is_some, IsTrue, IsSome, IsPermutation, refl}
use Rattle.std.specs.List.{list_any}
use Rattle.std.proofs.Common.{arith, ap, sym, ◌∙◌, subst, inl, inr}
use Rattle.std.proofs.lemmas.Bool.{eq-eqb}
use Rattle.std.proofs.lemmas.List.Elements.{Contains-append_left, Contains-push, Contains-push_cases}
use Rattle.std.proofs.lemmas.List.Sorted.{Contains-permutation, IsPermutation-sym}
use Rattle.std.proofs.lemmas.Map.Views.{Contains-from_any}
use Rattle.base_types.specs.declared.ids.DocId.{DocId}
use Rattle.lists_postings.specs.Events.{ChangesAt, NoneIn}
use Rattle.lists_postings.specs.declared.event.Event.{Event}
use Rattle.lists_postings.proofs.Elements.{here-or-later, none}
use Rattle.lists_versions.specs.declared.change.Change.{Change}
use Rattle.lists_versions.specs.Changes.{held_at}
use Rattle.lists_versions.specs.Lives.{AreEventsOf, lived, lived_of}
use Rattle.lists_versions.proofs.Changing.{alive-said, held-still, lived-by}
use Rattle.lists_versions.proofs.Indexed.{same, same-is}

pub given : (d : ℕ) (docs : List DocId) → list_any (λ doc. d == doc.0) docs ≡ true → Contains docs (record { 0 = d })
given d docs h = Contains-from_any {eq = same} same-is (record { 0 = d }) docs h

pub is-given : (doc : DocId) (docs : List DocId) → Contains docs doc → list_any (λ x. doc.0 == x.0) docs ≡ true
is-given doc [] c = absurd (none doc c)
is-given doc (x ∷ docs) c = go (doc.0 == x.0) refl (here-or-later x doc docs c) (λ k. is-given doc docs k)
  where
    go : (b : Bool) → doc.0 == x.0 ≡ b → (x ≡ doc) ⊎ Contains docs doc → (Contains docs doc → list_any (λ y. doc.0 == y.0) docs ≡ true) → list_any (λ y. doc.0 == y.0) (x ∷ docs) ≡ true
    go true e o rest = rw e refl
    go false e (inl i) rest = absurd (let yes = eq-eqb doc.0 x.0 (ap (λ (y : DocId). y.0) (sym i)) in cc)
    go false e (inr k) rest = rw e (rest k)

module _ {A : Type 0} (changes : List (Change A)) (a b : ℕ) where
  pub no-documents : AreEventsOf changes [] a b []
  no-documents = record { inside = λ x c. absurd (none x c); started = λ doc c. absurd (none doc c); changed = λ c m k lo hi. absurd (none c.doc k) }

  -- one document more
  pub one-more : (docs : List DocId) (doc : DocId) (old new : List Event) → AreEventsOf changes docs a b old
      → ((x : Event) → Contains old x → Contains new x)
      → ((x : Event) → Contains new x → Contains old x ⊎ ((x.doc ≡ doc) × (a ≤ x.at.seconds) × (x.at.seconds < b)))
      → (x : Event) × Contains new x × (x.doc ≡ doc) × (x.at.seconds ≡ a)
      → ((c : Change A) → Contains changes c → c.doc ≡ doc → a < c.at.seconds → c.at.seconds < b → (x : Event) × Contains new x × (x.doc ≡ doc) × (x.at.seconds ≡ c.at.seconds))
      → AreEventsOf changes (docs ++ doc ∷ []) a b new
  one-more docs doc old new h kept only started changed = record {
    inside = λ x c. elim (only x c) [
      | inl m ↦ (let (k, l, r) = h.inside x m in (Contains-append_left docs (doc ∷ []) x.doc k, l, r))
      | inr m ↦ (subst (λ d. Contains (docs ++ doc ∷ []) d) (sym m.0) (Contains-push docs doc), m.1, m.2)
    ];
    started = λ d c. elim (Contains-push_cases docs doc d c) [
      | inl m ↦ (let (x, k, l, r) = h.started d m in (x, kept x k, l, r))
      | inr e ↦ (let (x, k, l, r) = started in (x, k, l ∙ e, r))
    ];
    changed = λ c m k lo hi. elim (Contains-push_cases docs doc c.doc k) [
      | inl q ↦ (let (x, i, l, r) = h.changed c m q lo hi in (x, kept x i, l, r))
      | inr e ↦ (let (x, i, l, r) = changed c m (sym e) lo hi in (x, i, l ∙ e, r))
    ];
  }

  pub sorted-of : (docs : List DocId) (events sorted : List Event) → IsPermutation events sorted → AreEventsOf changes docs a b events → AreEventsOf changes docs a b sorted
  sorted-of docs events sorted p h = record {
    inside = λ x c. h.inside x (Contains-permutation sorted events x (IsPermutation-sym events sorted p) c);
    started = λ d c. let (x, k, l, r) = h.started d c in (x, Contains-permutation events sorted x p k, l, r);
    changed = λ c m k lo hi. let (x, i, l, r) = h.changed c m k lo hi in (x, Contains-permutation events sorted x p i, l, r);
  }

  -- at these events what is said of the documents changes
  pub changes-of : (docs : List DocId) (events : List Event) → AreEventsOf changes docs a b events → ChangesAt events a b (lived_of docs changes)
  changes-of docs events w = record {
    inside = λ x c. ((w.inside x c).1, (w.inside x c).2);
    still = λ d e t x l y n. still d e t x l y n (list_any (λ doc. d == doc.0) docs) refl;
    none = λ d t x y n. silent d t x n (list_any (λ doc. d == doc.0) docs) refl;
  }
    where
      still : (d e t : ℕ) → a ≤ e → e ≤ t → t < b → NoneIn events d e t → (q : Bool) → list_any (λ doc. d == doc.0) docs ≡ q → (if q then lived changes d e else None) ≡ (if q then lived changes d t else None)
      still d e t x l y n false h = refl
      still d e t x l y n true h =
          lived-by changes d e t (held-still (record { 0 = d }) e t changes l (λ c m i lo hi.
          let mine : Contains docs c.doc = subst (λ k. Contains docs k) (ap {B = DocId} (λ k. record { 0 = k }) (sym i)) (given d docs h) in
          let (z, k, j, s) = w.changed c m mine (omega (arith, x, lo)) (omega (arith, hi, y)) in n z k (ap (λ (q : DocId). q.0) j ∙ i) (omega (arith, s, lo)) (omega (arith, s, hi))))

      silent : (d t : ℕ) → a ≤ t → ((x : Event) → Contains events x → x.doc.0 ≡ d → x.at.seconds ≤ t → ⊥) → (q : Bool) → list_any (λ doc. d == doc.0) docs ≡ q → (if q then lived changes d t else None) ≡ None
      silent d t x n false h = refl
      silent d t x n true h = absurd (let (z, k, j, i) = w.started (record { 0 = d }) (given d docs h) in n z k (ap (λ (q : DocId). q.0) j) (omega (arith, i, x)))

  -- a document is alive by the lives of some where it is one of them, and alive
  pub given-said : (docs : List DocId) (doc : DocId) (t : ℕ) (q : Bool) → q ≡ is_some (lived_of docs changes doc.0 t)
      → (IsTrue q → Contains docs doc × IsSome (held_at doc t changes)) × (Contains docs doc × IsSome (held_at doc t changes) → IsTrue q)
  given-said docs doc t q e = go (list_any (λ x. doc.0 == x.0) docs) refl
    where
      says : (g : Bool) → list_any (λ x. doc.0 == x.0) docs ≡ g → q ≡ is_some (if g then lived changes doc.0 t else None)
      says g h = e ∙ ap (λ (b : Bool). is_some (if b then lived changes doc.0 t else None)) h

      go : (g : Bool) → list_any (λ x. doc.0 == x.0) docs ≡ g → (IsTrue q → Contains docs doc × IsSome (held_at doc t changes)) × (Contains docs doc × IsSome (held_at doc t changes) → IsTrue q)
      go true h = let s = alive-said changes doc t q (says true h) in (λ y. (given doc.0 docs h, s.0 y), λ p. s.1 p.1)
      go false h = (λ y. absurd (let no = sym y ∙ says false h in cc), λ p. absurd (let yes = is-given doc docs p.0 in cc))
