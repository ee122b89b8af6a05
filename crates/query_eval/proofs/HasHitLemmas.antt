-- The documents that have a hit are those that have one of the words.
use Rattle.std.proofs.Common.{◌≡◌, ◌⊎◌, ◌↔◌, ℕ, ◌+◌, ◌<◌, ◌≤◌, ◌==◌, Bool, true, false, cond, List, [], ◌∷◌, length, map, filter, All, Contains, refl, ap, subst, ◌∙◌, arith, inl, inr}
use Rattle.std.proofs.lemmas.Bool.{eq-eqb}
use Rattle.std.proofs.lemmas.Bool.Decides.{eqb_tells}
use Rattle.std.proofs.lemmas.List.Elements.{All-nil, All-cons, All-head, All-tail, All-append, All-filter, All-contains}
use Rattle.base_types.specs.declared.ids.DocId.{DocId}
use Rattle.base_types.specs.declared.posting.Posting.{Posting}
use Rattle.lists_postings.specs.Lists.{rows_at}
use Rattle.query_eval.specs.Found.{told, HasHit}
use Rattle.query_eval.specs.Hits.{hit_of, hits_in, gathered, is_of, hits_of, found, Tell}
use Rattle.query_eval.specs.declared.hit.Hit.{Hit}
use Rattle.query_eval.specs.declared.part.Part.{Part}
use Rattle.lists_postings.proofs.Elements.{here, later, here-or-later, none}

-- a hit is of one of so many words, and counts something
record Counts (count : ℕ) (h : Hit) : Type 0 where
  place : h.place < count
  some : 1 ≤ h.tf

hits-count : (count place : ℕ) (list : List Posting) → place < count → All (Counts count) (map (hit_of place) list)
hits-count count place [] l = All-nil (Counts count)
hits-count count place (p ∷ list) l = All-cons (Counts count) (hit_of place p) (map (hit_of place) list) (record { place = l; some = p.counted }) (hits-count count place list l)

gathered-count : (count t place : ℕ) (parts : List Part) → place + length parts ≤ count → All (Counts count) (gathered t place parts)
gathered-count count t place [] l = All-nil (Counts count)
gathered-count count t place (p ∷ parts) l =
    All-append (Counts count) (hits_in t place p.list.items) (gathered t (place + 1) parts)
    (hits-count count place (rows_at t p.list.items) (omega (arith, l))) (gathered-count count t (place + 1) parts (omega (arith, l)))

-- what the hits say of a word that one of them is of
found-some : (count : ℕ) (hits : List Hit) (h : Hit) → Contains hits h → All (Counts count) hits → 0 < found hits h.place
found-some count [] h c all = absurd (none h c)
found-some count (x ∷ hits) h c all = go (x.place == h.place) refl (here-or-later x h hits c) (λ k. found-some count hits h k (All-tail (Counts count) x hits all))
  where
    go : (b : Bool) → x.place == h.place ≡ b → (x ≡ h) ⊎ Contains hits h → (Contains hits h → 0 < found hits h.place) → 0 < cond b x.tf (found hits h.place)
    go true e o rest = (All-head (Counts count) x hits all).some
    go false e (inl i) rest = absurd (let same = eq-eqb x.place h.place (ap (λ (y : Hit). y.place) i) in cc)
    go false e (inr k) rest = rest k

found-none : (hits : List Hit) (place : ℕ) → 0 < found hits place → (h : Hit) × Contains hits h
found-none [] place some = absurd (omega (arith, some))
found-none (h ∷ hits) place some = (h, here h hits)

-- a document's hits
of-in : (doc : DocId) (hits : List Hit) (h : Hit) → Contains hits h → h.doc ≡ doc → Contains (hits_of doc hits) h
of-in doc [] h c e = absurd (none h c)
of-in doc (x ∷ hits) h c e = go (x.doc.0 == doc.0) refl (here-or-later x h hits c) (λ k. of-in doc hits h k e)
  where
    go : (b : Bool) → x.doc.0 == doc.0 ≡ b → (x ≡ h) ⊎ Contains hits h → (Contains hits h → Contains (hits_of doc hits) h) → Contains (cond b (x ∷ hits_of doc hits) (hits_of doc hits)) h
    go true i (inl s) rest = subst (λ y. Contains (x ∷ hits_of doc hits) y) s (here x (hits_of doc hits))
    go true i (inr k) rest = later x h (hits_of doc hits) (rest k)
    go false i (inl s) rest = absurd (let same = eq-eqb x.doc.0 doc.0 (ap (λ (y : Hit). y.doc.0) s ∙ ap (λ (d : DocId). d.0) e) in cc)
    go false i (inr k) rest = rest k

pub of-from : (doc : DocId) (hits : List Hit) (h : Hit) → Contains (hits_of doc hits) h → Contains hits h × (h.doc ≡ doc)
of-from doc [] h c = absurd (none h c)
of-from doc (x ∷ hits) h c = go (x.doc.0 == doc.0) refl c (λ k. of-from doc hits h k)
  where
    same : x.doc.0 ≡ doc.0 → x.doc ≡ doc
    same e = ap {B = DocId} (λ n. record { 0 = n }) e

    go : (b : Bool) → x.doc.0 == doc.0 ≡ b → Contains (cond b (x ∷ hits_of doc hits) (hits_of doc hits)) h → (Contains (hits_of doc hits) h → Contains hits h × (h.doc ≡ doc)) → Contains (x ∷ hits) h × (h.doc ≡ doc)
    go true i k rest = elim (here-or-later x h (hits_of doc hits) k) [
      | inl s ↦ (subst (λ y. Contains (x ∷ hits) y) s (here x hits), subst (λ (y : Hit). y.doc ≡ doc) s (same (elim (eqb_tells x.doc.0 doc.0) [ inl y ↦ y.1 | inr n ↦ absurd (let two = n.0 in cc) ])))
      | inr m ↦ (let (k, e) = rest m in (later x h hits k, e))
    ]
    go false i k rest = let (m, e) = rest k in (later x h hits m, e)

-- the documents of hits
pub document-in : (hits : List Hit) (h : Hit) → Contains hits h → Contains (map (λ x. x.doc) hits) h.doc
document-in [] h c = absurd (none h c)
document-in (x ∷ hits) h c = elim (here-or-later x h hits c) [
  | inl s ↦ subst (λ (y : Hit). Contains (map (λ z. z.doc) (x ∷ hits)) y.doc) s (here x.doc (map (λ z. z.doc) hits))
  | inr k ↦ later x.doc h.doc (map (λ z. z.doc) hits) (document-in hits h k)
]

pub document-from : (hits : List Hit) (doc : DocId) → Contains (map (λ x. x.doc) hits) doc → (h : Hit) × Contains hits h × (h.doc ≡ doc)
document-from [] doc c = absurd (none doc c)
document-from (x ∷ hits) doc c = elim (here-or-later x.doc doc (map (λ z. z.doc) hits) c) [
  | inl s ↦ (x, here x hits, s)
  | inr k ↦ (let (h, m, e) = document-from hits doc k in (h, later x h hits m, e))
]

pub documents-are : (t : ℕ) (words : List (List ℕ)) (parts : List Part) (hits : List Hit) → length parts ≡ length words → ((d : ℕ) → filter (is_of d) hits ≡ filter (is_of d) (gathered t 0 parts))
    → Tell hits words (λ doc. told words parts t doc.0) → (doc : DocId) → Contains (map (λ h. h.doc) hits) doc ↔ HasHit words parts t doc
documents-are t words parts hits n e tell doc = (
  λ c.
      let (h, k, s) = document-from hits doc c in
      let mine = of-in doc hits h k s in
      let there = (of-from doc (gathered t 0 parts) h (subst (λ l. Contains l h) (e doc.0) mine)).0 in
      let all = gathered-count (length words) t 0 parts (omega (arith, n)) in
      let counts : Counts (length words) h = All-contains (Counts (length words)) (gathered t 0 parts) h all there in
      let some = found-some (length words) (hits_of doc (gathered t 0 parts)) h (of-in doc (gathered t 0 parts) h there s) (All-filter (is_of doc.0) (Counts (length words)) (gathered t 0 parts) all) in
      record { place = h.place; within = counts.place; some = omega (arith, some, ap (λ l. found l h.place) (e doc.0), tell doc h.place counts.place) },
  λ r.
      let (h, k) = found-none (hits_of doc hits) r.place (omega (arith, r.some, tell doc r.place r.within)) in
      let (m, s) = of-from doc hits h k in
      subst (λ d. Contains (map (λ x. x.doc) hits) d) s (document-in hits h m),
)
