-- The documents that ever changed, ascending.
use Rattle.std.specs.Prelude.{◌≡◌, ◌⊎◌, ℕ, ◌+◌, ◌<◌, ◌≤◌, Bool, true, false, ◌==◌, nat_lt, List, [], ◌∷◌, ◌++◌, fold, IsPermutation, refl}
use Rattle.std.specs.List.{list_any}
use Rattle.std.proofs.Common.{arith, ap, inl, inr}
use Rattle.std.proofs.lemmas.Bool.Decides.{nat_tests}
use Rattle.std.proofs.lemmas.List.Sorted.{IsPermutation-refl, IsPermutation-cons, IsPermutation-trans, IsPermutation-swap}
use Rattle.std.proofs.lemmas.List.Sums.{fold-append}
use Rattle.base_types.specs.declared.ids.DocId.{DocId}
use Rattle.lists_versions.specs.declared.change.Change.{Change}
use Rattle.lists_versions.specs.Changes.{put, documents}

-- the documents ascend, and none is below n
abbrev pub IsAbove : ℕ → List DocId → Type 0
IsAbove n [] = Unit {0}
IsAbove n (d ∷ ds) = (n ≤ d.0) × IsAbove (d.0 + 1) ds

-- how two documents compare, as `put` tests it
pub order_of : (d e : DocId) → ((nat_lt d.0 e.0 ≡ true) × (d.0 < e.0)) ⊎ (((nat_lt d.0 e.0 ≡ false) × (d.0 == e.0 ≡ true) × (d.0 ≡ e.0)) ⊎ ((nat_lt d.0 e.0 ≡ false) × (d.0 == e.0 ≡ false) × (e.0 < d.0)))
order_of d e = grind (arith, nat_tests)

-- whether a document is among others
abbrev pub has : DocId → List DocId → Bool
has d ds = list_any (λ e. d.0 == e.0) ds

-- a document put among others that ascend
pub put-above : (n : ℕ) (d : DocId) (ds : List DocId) → n ≤ d.0 → IsAbove n ds → IsAbove n (put d ds)
put-above n d [] h a = (h, tt)
put-above n d (e ∷ es) h a = elim (order_of d e) [
  | inl o ↦ rw o.0 (h, (omega arith, a.1))
  | inr o ↦ elim o [
    | inl o ↦ rw (o.0, o.1) a
    | inr o ↦ rw (o.0, o.1) (a.0, put-above (e.0 + 1) d es (omega arith) a.1)
  ]
]

-- a document below all others isn't among them
pub has-below : (n : ℕ) (d : DocId) (ds : List DocId) → d.0 < n → IsAbove n ds → has d ds ≡ false
has-below n d [] h a = refl
has-below n d (e ∷ es) h a = let apart : d.0 == e.0 ≡ false = grind (arith, nat_tests) in rw apart (has-below (e.0 + 1) d es (omega arith) a.1)

-- a document that is there is put nowhere
pub put-there : (n : ℕ) (d : DocId) (ds : List DocId) → IsAbove n ds → has d ds ≡ true → put d ds ≡ ds
put-there n d [] a h = absurd (cc)
put-there n d (e ∷ es) a h = elim (order_of d e) [
  | inl o ↦ absurd (let no : has d (e ∷ es) ≡ false = has-below e.0 d (e ∷ es) o.1 (omega arith, a.1) in cc)
  | inr o ↦ elim o [
    | inl o ↦ rw (o.0, o.1) refl
    | inr o ↦ rw (o.0, o.1) (ap (λ xs. e ∷ xs) (put-there (e.0 + 1) d es a.1 (rw o.1 at h)))
  ]
]

-- a document that isn't there is one more
pub put-new : (d : DocId) (ds : List DocId) → has d ds ≡ false → IsPermutation (d ∷ ds) (put d ds)
put-new d [] h = IsPermutation-refl (d ∷ [])
put-new d (e ∷ es) h = elim (order_of d e) [
  | inl o ↦ rw o.0 (IsPermutation-refl (d ∷ e ∷ es))
  | inr o ↦ elim o [
    | inl o ↦ absurd (let yes : has d (e ∷ es) ≡ true = rw o.1 refl in cc)
    | inr o ↦ rw (o.0, o.1) (IsPermutation-trans (d ∷ e ∷ es) (e ∷ d ∷ es) (e ∷ put d es) (IsPermutation-swap (d ∷ e ∷ es) (e ∷ d ∷ es) 0 1 (omega arith) (omega arith) refl) (IsPermutation-cons e (d ∷ es) (put d es) (put-new d es (rw o.1 at h))))
  ]
]

-- one change more
pub documents-push : {A : Type 0} (changes : List (Change A)) (c : Change A) → documents (changes ++ c ∷ []) ≡ put c.doc (documents changes)
documents-push {A = A} changes c = fold-append (λ (found : List DocId) (d : Change A). put d.doc found) [] changes (c ∷ [])

-- the documents ascend
pub documents-above : {A : Type 0} (changes : List (Change A)) → IsAbove 0 (documents changes)
documents-above {A = A} changes = go [] changes tt
  where
    go : (found : List DocId) (changes : List (Change A)) → IsAbove 0 found → IsAbove 0 (fold (λ found c. put c.doc found) found changes)
    go found [] a = a
    go found (c ∷ cs) a = go (put c.doc found) cs (put-above 0 c.doc found (omega arith) a)
