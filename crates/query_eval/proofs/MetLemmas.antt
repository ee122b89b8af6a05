-- The documents with a posting in a window: those that are gathered, each once, and that no other has a hit there.
use Rattle.std.proofs.Common.{◌≡◌, ◌↔◌, ℕ, suc, ◌<◌, ◌≤◌, ◌==◌, ◌&&◌, Bool, true, false, cond, if◌then◌else◌, bytes_eq, List, [], ◌∷◌, length, get_or, Contains, IsPermutation, refl, ap, sym, subst, inl, inr, ◌∙◌, arith}
use Rattle.std.specs.List.{dedup, dedup_from}
use Rattle.std.specs.List.Sorted.{IsNonDecreasingBy}
use Rattle.std.proofs.lemmas.Bool.Decides.{nat_tests, eqb_tells}
use Rattle.std.proofs.lemmas.List.Elements.{Contains-append_left, Contains-append_right, Contains-append_cases}
use Rattle.std.proofs.lemmas.List.Kept.{Contains-from_dedup}
use Rattle.std.proofs.lemmas.List.Sorted.{Contains-permutation, IsPermutation-sym}
use Rattle.base_types.specs.declared.ids.DocId.{DocId}
use Rattle.base_types.specs.declared.posting.Posting.{Posting}
use Rattle.lists_postings.specs.Lists.{EachNext, holds, meets, sublist, frequency}
use Rattle.lists_postings.proofs.Elements.{here, later, here-or-later, none, filter-in, filter-from, map-in, map-from}
use Rattle.query_eval.specs.Found.{told}
use Rattle.query_eval.specs.Met.{IsMet, met_in, all_met}
use Rattle.query_eval.specs.SpanLaws.{HitsAreMet}
use Rattle.query_eval.specs.declared.part.Part.{Part}

-- ---- the documents that are gathered

module _ (a b : ℕ) where
  in-met : (parts : List Part) (doc : DocId) → IsMet parts a b doc → Contains (all_met a b parts) doc
  in-met [] doc m = absurd (none m.part m.given)
  in-met (x ∷ parts) doc m = elim (here-or-later x m.part parts m.given) [
    | inl s ↦
        let mine : Contains x.list.items m.posting = subst (λ (y : Part). Contains y.list.items m.posting) (sym s) m.listed in
        Contains-append_left (met_in a b x.list.items) (all_met a b parts) doc
        (subst (λ d. Contains (met_in a b x.list.items) d) m.of (map-in (λ p. p.doc) m.posting (sublist a b x.list.items) (filter-in (meets a b) m.posting x.list.items mine m.within)))
    | inr c ↦ Contains-append_right (met_in a b x.list.items) (all_met a b parts) doc (in-met parts doc (record { part = m.part; given = c; posting = m.posting; listed = m.listed; of = m.of; within = m.within }))
  ]

  from-met : (parts : List Part) (doc : DocId) → Contains (all_met a b parts) doc → IsMet parts a b doc
  from-met [] doc c = absurd (none doc c)
  from-met (x ∷ parts) doc c = elim (Contains-append_cases (met_in a b x.list.items) (all_met a b parts) doc c) [
    | inl m ↦
        let (p, n, e) = map-from (λ (p : Posting). p.doc) doc (sublist a b x.list.items) m in
        let (q, w) = filter-from (meets a b) p x.list.items n in
        record { part = x; given = here x parts; posting = p; listed = q; of = e; within = w }
    | inr m ↦ (let r = from-met parts doc m in record { part = r.part; given = later x r.part parts r.given; posting = r.posting; listed = r.listed; of = r.of; within = r.within })
  ]

-- ---- each once

abbrev pub same : DocId → DocId → Bool
same d e = d.0 == e.0

one : (d e : DocId) → same d e ≡ true → d ≡ e
one d e h = ap {B = DocId} (λ n. record { 0 = n }) (elim (eqb_tells d.0 e.0) [ inl y ↦ y.1 | inr n ↦ absurd (let two = n.0 in cc) ])

abbrev Rises : DocId → DocId → Type 0
Rises d e = d.0 < e.0

-- the documents don't fall, and none is below n
abbrev IsFrom : ℕ → List DocId → Type 0
IsFrom n [] = Unit {0}
IsFrom n (d ∷ ds) = (n ≤ d.0) × IsFrom d.0 ds

from-sorted : (n : ℕ) (ds : List DocId) → ((x : DocId) → 0 < length ds → n ≤ (get_or ds 0 x).0) → IsNonDecreasingBy (λ d. d.0) ds → IsFrom n ds
from-sorted n [] h up = tt
from-sorted n (d ∷ ds) h up = (h d (omega arith), from-sorted d.0 ds (λ x m. up 0 1 x (omega arith) (omega arith)) (λ i j x l m. up (suc i) (suc j) x (omega arith) (omega arith)))

higher : (k x : DocId) → same x k ≡ false → k.0 ≤ x.0 → k.0 < x.0
higher k x e l = grind (arith, nat_tests)

lower : (n m : ℕ) (ds : List DocId) → n ≤ m → IsFrom m ds → IsFrom n ds
lower n m [] l h = tt
lower n m (d ∷ ds) l h = (omega (arith, l, h.0), h.1)

rises-behind : (p k : DocId) (ds : List DocId) → p.0 < k.0 → IsFrom k.0 ds → EachNext Rises (p ∷ dedup_from same k ds)
rises-behind p k [] l h = (l, tt)
rises-behind p k (x ∷ ds) l h = go (same x k) refl (λ f. rises-behind p k ds l f) (λ m. rises-behind k x ds m h.1)
  where
    go : (b : Bool) → same x k ≡ b → (IsFrom k.0 ds → EachNext Rises (p ∷ dedup_from same k ds)) → (k.0 < x.0 → EachNext Rises (k ∷ dedup_from same x ds))
        → EachNext Rises (p ∷ cond b (dedup_from same k ds) (k ∷ dedup_from same x ds))
    go true e still next = still (lower k.0 x.0 ds h.0 h.1)
    go false e still next = (l, next (higher k x e h.0))

rises-from : (k : DocId) (ds : List DocId) → IsFrom k.0 ds → EachNext Rises (dedup_from same k ds)
rises-from k [] h = tt
rises-from k (x ∷ ds) h = go (same x k) refl (λ f. rises-from k ds f)
  where
    go : (b : Bool) → same x k ≡ b → (IsFrom k.0 ds → EachNext Rises (dedup_from same k ds)) → EachNext Rises (cond b (dedup_from same k ds) (k ∷ dedup_from same x ds))
    go true e still = still (lower k.0 x.0 ds h.0 h.1)
    go false e still = rises-behind k x ds (higher k x e h.0) h.1

rises : (ds : List DocId) → IsFrom 0 ds → EachNext Rises (dedup same ds)
rises [] h = tt
rises (d ∷ ds) h = rises-from d ds h.1

kept-from : (k : DocId) (ds : List DocId) (d : DocId) → Contains (k ∷ ds) d → Contains (dedup_from same k ds) d
kept-from k [] d c = c
kept-from k (x ∷ ds) d c = go (same x k) refl (λ m. kept-from k ds d m) (λ m. kept-from x ds d m)
  where
    go : (b : Bool) → same x k ≡ b → (Contains (k ∷ ds) d → Contains (dedup_from same k ds) d) → (Contains (x ∷ ds) d → Contains (dedup_from same x ds) d)
        → Contains (cond b (dedup_from same k ds) (k ∷ dedup_from same x ds)) d
    go true e still next = still (elim (here-or-later k d (x ∷ ds) c) [
      | inl s ↦ subst (λ z. Contains (k ∷ ds) z) s (here k ds)
      | inr m ↦ elim (here-or-later x d ds m) [
        | inl s ↦ subst (λ z. Contains (k ∷ ds) z) (sym (one x k e) ∙ s) (here k ds)
        | inr r ↦ later k d ds r
      ]
    ])
    go false e still next = elim (here-or-later k d (x ∷ ds) c) [
      | inl s ↦ subst (λ z. Contains (k ∷ dedup_from same x ds) z) s (here k (dedup_from same x ds))
      | inr m ↦ later k d (dedup_from same x ds) (next m)
    ]

kept : (ds : List DocId) (d : DocId) → Contains ds d → Contains (dedup same ds) d
kept [] d c = c
kept (x ∷ ds) d c = kept-from x ds d c

-- what is gathered, sorted and rid of repeats
module _ (a b : ℕ) (parts : List Part) (docs sorted all : List DocId) (gathered : docs ≡ all_met a b parts) (moved : IsPermutation docs sorted) (is : all ≡ dedup same sorted) where
  pub ascending : IsNonDecreasingBy (λ d. d.0) sorted → EachNext Rises all
  ascending up = subst (EachNext Rises) (sym is) (rises sorted (from-sorted 0 sorted (λ x l. omega arith) up))

  pub are-met : (doc : DocId) → Contains all doc ↔ IsMet parts a b doc
  are-met doc = (
    λ c. from-met a b parts doc (subst (λ l. Contains l doc) gathered (Contains-permutation sorted docs doc (IsPermutation-sym docs sorted moved) (Contains-from_dedup same sorted doc (subst (λ l. Contains l doc) is c)))),
    λ m. subst (λ l. Contains l doc) (sym is) (kept sorted doc (Contains-permutation docs sorted doc moved (subst (λ l. Contains l doc) (sym gathered) (in-met a b parts doc m)))),
  )

-- ---- no other document has a hit

-- a document with a word at a time has a posting that holds it
posting-of : (d t : ℕ) (list : List Posting) → 0 < frequency d t list → (p : Posting) × Contains list p × (p.doc.0 ≡ d) × (holds t p ≡ true)
posting-of d t [] some = absurd (omega (arith, some))
posting-of d t (p ∷ list) some = go (p.doc.0 == d) (holds t p) refl refl some (λ m. posting-of d t list m)
  where
    further : (q : Posting) × Contains list q × (q.doc.0 ≡ d) × (holds t q ≡ true) → (q : Posting) × Contains (p ∷ list) q × (q.doc.0 ≡ d) × (holds t q ≡ true)
    further (q, c, i, r) = (q, later p q list c, i, r)

    go : (x y : Bool) → p.doc.0 == d ≡ x → holds t p ≡ y → 0 < (if (x && y) then p.tf else frequency d t list) → (0 < frequency d t list → (q : Posting) × Contains list q × (q.doc.0 ≡ d) × (holds t q ≡ true))
        → (q : Posting) × Contains (p ∷ list) q × (q.doc.0 ≡ d) × (holds t q ≡ true)
    go true true e f m rest = (p, here p list, elim (eqb_tells p.doc.0 d) [ inl y ↦ y.1 | inr n ↦ absurd (let two = n.0 in cc) ], f)
    go true false e f m rest = further (rest m)
    go false y e f m rest = further (rest m)

part-of : (words : List (List ℕ)) (parts : List Part) (t d : ℕ) (word : List ℕ) → 0 < told words parts t d word → (part : Part) × Contains parts part × (0 < frequency d t part.list.items)
part-of [] parts t d word some = absurd (omega (arith, some))
part-of (w ∷ words) [] t d word some = absurd (omega (arith, some))
part-of (w ∷ words) (part ∷ parts) t d word some = go (bytes_eq w word) some (λ m. part-of words parts t d word m)
  where
    go : (c : Bool) → 0 < (if c then frequency d t part.list.items else told words parts t d word) → (0 < told words parts t d word → (q : Part) × Contains parts q × (0 < frequency d t q.list.items))
        → (q : Part) × Contains (part ∷ parts) q × (0 < frequency d t q.list.items)
    go true m rest = (part, here part parts, m)
    go false m rest = let (q, c, r) = rest m in (q, later part q parts c, r)

meets-then : (a b t : ℕ) (p : Posting) → a ≤ t → t < b → holds t p ≡ true → meets a b p ≡ true
meets-then a b t p from to h = grind (arith, nat_tests)

pub hits_are_met : HitsAreMet
hits_are_met words parts a b t doc from to hit =
    let (part, given, some) = part-of words parts t doc.0 (get_or words hit.place []) hit.some in
    let (p, listed, mine, h) = posting-of doc.0 t part.list.items some in
    record { part = part; given = given; posting = p; listed = listed; of = ap {B = DocId} (λ n. record { 0 = n }) mine; within = meets-then a b t p from to h }
