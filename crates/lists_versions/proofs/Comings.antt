-- The latest change of a document, and how many documents there are, as changes come.
use Rattle.std.specs.Prelude.{◌≡◌, ℕ, ◌+◌, Bool, true, false, cond, ◌||◌, ◌==◌, List, [], ◌∷◌, ◌++◌, fold, length, Option, Some, None, is_some, refl}
use Rattle.std.proofs.Common.{arith, ap, sym, ◌∙◌, inl, inr, append_assoc, append-nil}
use Rattle.std.proofs.lemmas.Bool.Decides.{nat_tests}
use Rattle.std.proofs.lemmas.List.Elements.{filter-append}
use Rattle.std.proofs.lemmas.List.Sorted.{length_permutation}
use Rattle.base_types.specs.declared.ids.DocId.{DocId}
use Rattle.lists_versions.specs.declared.change.Change.{Change}
use Rattle.lists_versions.specs.Changes.{changes_of, latest, last_of, put, documents}
use Rattle.lists_versions.proofs.Listed.{last_of-push}
use Rattle.lists_versions.proofs.Latest.{last_of-cons, changes_of-same, changes_of-other}
use Rattle.lists_versions.proofs.Known.{has, order_of, put-there, put-new, documents-push, documents-above}

-- ---- the latest change

pub latest-same : {A : Type 0} (doc : DocId) (changes : List (Change A)) (c : Change A) → c.doc.0 == doc.0 ≡ true → latest doc (changes ++ c ∷ []) ≡ Some c
latest-same doc changes c e = ap last_of (changes_of-same doc changes c e) ∙ last_of-push (changes_of doc changes) c

pub latest-other : {A : Type 0} (doc : DocId) (changes : List (Change A)) (c : Change A) → c.doc.0 == doc.0 ≡ false → latest doc (changes ++ c ∷ []) ≡ latest doc changes
latest-other doc changes c e = ap last_of (changes_of-other doc changes c e)

-- among changes behind others, the latest of those where there is one, and else the others'
last-behind : {A : Type 0} (xs : List A) (y : A) (ys : List A) → last_of (xs ++ y ∷ ys) ≡ last_of (y ∷ ys)
last-behind [] y ys = refl
last-behind (x ∷ []) y ys = last_of-cons x y ys
last-behind (x ∷ z ∷ xs) y ys = last_of-cons x z (xs ++ y ∷ ys) ∙ last-behind (z ∷ xs) y ys

last-there : {A : Type 0} (x : A) (xs : List A) → is_some (last_of (x ∷ xs)) ≡ true
last-there x [] = refl
last-there x (y ∷ xs) = ap is_some (last_of-cons x y xs) ∙ last-there y xs

last-back : {A : Type 0} (xs ys : List A) (c : A) → last_of ys ≡ Some c → last_of (xs ++ ys) ≡ Some c
last-back xs [] c is = absurd cc
last-back xs (y ∷ ys) c is = last-behind xs y ys ∙ is

last-front : {A : Type 0} (xs ys : List A) → last_of ys ≡ None → last_of (xs ++ ys) ≡ last_of xs
last-front xs [] none = ap last_of (append-nil xs)
last-front xs (y ∷ ys) none = let some : true ≡ false = sym (last-there y ys) ∙ ap is_some none in absurd cc

pub latest-back : {A : Type 0} (doc : DocId) (before coming : List (Change A)) (c : Change A) → latest doc coming ≡ Some c → latest doc (before ++ coming) ≡ Some c
latest-back doc before coming c is = ap last_of (filter-append (λ d. d.doc.0 == doc.0) before coming) ∙ last-back (changes_of doc before) (changes_of doc coming) c is

pub latest-front : {A : Type 0} (doc : DocId) (before coming : List (Change A)) → latest doc coming ≡ None → latest doc (before ++ coming) ≡ latest doc before
latest-front doc before coming none = ap last_of (filter-append (λ d. d.doc.0 == doc.0) before coming) ∙ last-front (changes_of doc before) (changes_of doc coming) none

-- whoever keeps the latest ones goes on
pub newest-more : {A : Type 0} (c : Change A) (old new : List (Change A)) (was now : DocId → Option (Change A)) → new ≡ old ++ c ∷ [] → ((d : DocId) → was d ≡ latest d old) → ((d : DocId) → now d ≡ cond (c.doc.0 == d.0) (Some c) (was d)) → (d : DocId) → now d ≡ latest d new
newest-more {A} c old new was now is so_far put d = put d ∙ go (c.doc.0 == d.0) refl ∙ ap (latest d) (sym is)
  where
    go : (b : Bool) → c.doc.0 == d.0 ≡ b → cond b (Some c) (was d) ≡ latest d (old ++ c ∷ [])
    go true e = sym (latest-same d old c e)
    go false e = so_far d ∙ sym (latest-other d old c e)

-- ---- which documents there are

or_none : (a : Bool) → (a || false) ≡ a
or_none true = refl
or_none false = refl

or_again : (a b : Bool) → (a || (a || b)) ≡ (a || b)
or_again true b = refl
or_again false b = refl

or_swap : (a b c : Bool) → (a || (b || c)) ≡ (b || (a || c))
or_swap true true c = refl
or_swap true false c = refl
or_swap false b c = refl

or_group : (a b c : Bool) → ((a || b) || c) ≡ (b || (a || c))
or_group true true c = refl
or_group true false c = refl
or_group false b c = refl

eqb-swap : (a b : ℕ) → a == b ≡ b == a
eqb-swap a b = grind (arith, nat_tests)

has-put : (d e : DocId) (ds : List DocId) → has d (put e ds) ≡ ((d.0 == e.0) || has d ds)
has-put d e [] = refl
has-put d e (f ∷ fs) = elim (order_of e f) [
  | inl o ↦ rw o.0 refl
  | inr o ↦ elim o [
    | inl o ↦ rw (o.0, o.1) (sym (or_again (d.0 == f.0) (has d fs)) ∙ ap (λ (n : ℕ). (d.0 == n) || ((d.0 == f.0) || has d fs)) (sym o.2))
    | inr o ↦ rw (o.0, o.1) (ap (λ b. (d.0 == f.0) || b) (has-put d e fs) ∙ or_swap (d.0 == f.0) (d.0 == e.0) (has d fs))
  ]
]

latest-cons : {A : Type 0} (doc : DocId) (x : Change A) (cs : List (Change A)) → is_some (latest doc (x ∷ cs)) ≡ ((doc.0 == x.doc.0) || is_some (latest doc cs))
latest-cons {A} doc x cs = rw (eqb-swap doc.0 x.doc.0) (go (x.doc.0 == doc.0))
  where
    go : (b : Bool) → is_some (last_of (cond b (x ∷ changes_of doc cs) (changes_of doc cs))) ≡ (b || is_some (last_of (changes_of doc cs)))
    go true = last-there x (changes_of doc cs)
    go false = refl

there : {A : Type 0} (doc : DocId) (found : List DocId) (cs : List (Change A)) → has doc (fold (λ (f : List DocId) (c : Change A). put c.doc f) found cs) ≡ (has doc found || is_some (latest doc cs))
there doc found [] = sym (or_none (has doc found))
there doc found (x ∷ cs) =
    there doc (put x.doc found) cs ∙ ap (λ b. b || is_some (latest doc cs)) (has-put doc x.doc found)
    ∙ or_group (doc.0 == x.doc.0) (has doc found) (is_some (latest doc cs)) ∙ ap (λ b. has doc found || b) (sym (latest-cons doc x cs))

-- a document is among those that changed exactly where it has a latest change
pub known-by-latest : {A : Type 0} (doc : DocId) (cs : List (Change A)) → has doc (documents cs) ≡ is_some (latest doc cs)
known-by-latest doc cs = there doc [] cs

-- how many documents there are with one change more
pub count-new : {A : Type 0} (cs : List (Change A)) (c : Change A) → latest c.doc cs ≡ None → length (documents (cs ++ c ∷ [])) ≡ length (documents cs) + 1
count-new cs c none =
    let is : length (put c.doc (documents cs)) ≡ length (c.doc ∷ documents cs) = length_permutation (c.doc ∷ documents cs) (put c.doc (documents cs)) (put-new c.doc (documents cs) (known-by-latest c.doc cs ∙ ap is_some none)) in
    omega (arith, is, ap length (documents-push cs c))

pub count-known : {A : Type 0} (cs : List (Change A)) (c : Change A) → is_some (latest c.doc cs) ≡ true → length (documents (cs ++ c ∷ [])) ≡ length (documents cs)
count-known cs c some = ap length (documents-push cs c ∙ put-there 0 c.doc (documents cs) (documents-above cs) (known-by-latest c.doc cs ∙ some))

-- the count as one more comes
pub counted-new : {A : Type 0} (before old new : List (Change A)) (c : Change A) (fresh : ℕ) → new ≡ old ++ c ∷ [] → latest c.doc (before ++ old) ≡ None
    → length (documents (before ++ old)) ≡ length (documents before) + fresh → length (documents (before ++ new)) ≡ length (documents before) + (fresh + 1)
counted-new {A} before old new c fresh is none count =
    let e : before ++ new ≡ (before ++ old) ++ c ∷ [] = ap (λ (xs : List (Change A)). before ++ xs) is ∙ sym (append_assoc before old (c ∷ [])) in
    omega (arith, count, ap (λ (xs : List (Change A)). length (documents xs)) e, count-new (before ++ old) c none)

pub counted-known : {A : Type 0} (before old new : List (Change A)) (c d : Change A) (fresh : ℕ) → new ≡ old ++ c ∷ [] → latest c.doc (before ++ old) ≡ Some d
    → length (documents (before ++ old)) ≡ length (documents before) + fresh → length (documents (before ++ new)) ≡ length (documents before) + fresh
counted-known {A} before old new c d fresh is some count =
    let e : before ++ new ≡ (before ++ old) ++ c ∷ [] = ap (λ (xs : List (Change A)). before ++ xs) is ∙ sym (append_assoc before old (c ∷ [])) in
    omega (arith, count, ap (λ (xs : List (Change A)). length (documents xs)) e, count-known (before ++ old) c (ap is_some some))
