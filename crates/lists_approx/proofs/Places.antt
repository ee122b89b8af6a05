-- Lists with a posting in the middle.
use Rattle.std.specs.Prelude.{◌≡◌, ℕ, zero, ◌<◌, ◌≤◌, cond, List, [], ◌∷◌, ◌++◌, refl}
use Rattle.std.proofs.Common.{arith, ap, sym, ◌∙◌, inl, inr}
use Rattle.std.proofs.lemmas.List.Elements.{Contains-append_right}
use Rattle.std.proofs.lemmas.Bool.{cases_lt}
use Rattle.base_types.specs.declared.posting.Posting.{Posting}
use Rattle.lists_postings.specs.Lists.{EachNext, ComesBefore, IsList, frequency}
use Rattle.lists_postings.proofs.Order.{Heads, next-tail, next-later, before-trans}
use Rattle.lists_postings.proofs.Frequencies.{is_row, frequency-skip, early}

-- an element in the middle is replaced by one that stands alike to its neighbours
pub replace : (R : Posting → Posting → Type 0) (done : List Posting) (q j : Posting) (left right : List Posting) → ((r : Posting) → R r q → R r j) → (EachNext R (q ∷ left) → EachNext R (j ∷ right)) → EachNext R (done ++ q ∷ left) → EachNext R (done ++ j ∷ right)
replace R [] q j left right before after h = after h
replace R (r ∷ []) q j left right before after h = (before r h.0, after h.1)
replace R (r ∷ s ∷ done) q j left right before after h = (h.0, replace R (s ∷ done) q j left right before after h.1)

-- what stands in front keeps a frequency the same
pub front-same : (d t : ℕ) (done a b : List Posting) → frequency d t a ≡ frequency d t b → frequency d t (done ++ a) ≡ frequency d t (done ++ b)
front-same d t [] a b e = e
front-same d t (p ∷ done) a b e = ap {B = ℕ} (λ n. cond (is_row d t p) p.tf n) (front-same d t done a b e)

-- a posting of an earlier place doesn't hold a time from the start of a later one on
pub front-skip : (d t : ℕ) (done : List Posting) (c : Posting) (left : List Posting) → IsList (done ++ c ∷ left) → c.doc.0 ≡ d → c.span.from ≤ t → frequency d t (done ++ c ∷ left) ≡ frequency d t (c ∷ left)
front-skip d t [] c left l e f = refl
front-skip d t (p ∷ done) c left l e f =
    let b : ComesBefore p c = next-later ComesBefore before-trans p c (done ++ c ∷ left) l (Contains-append_right done (c ∷ left) c (zero, omega arith, refl)) in
    frequency-skip d t p (done ++ c ∷ left) (λ x y z. never b x z) ∙ front-skip d t done c left (next-tail ComesBefore p (done ++ c ∷ left) l) e f
  where
    never : ComesBefore p c → p.doc.0 ≡ d → t < p.span.to → ⊥
    never (inl h) x z = omega (arith, h, x, e)
    never (inr h) x z = omega (arith, h.1, z, f)

-- a list has nothing of a document where a posting ends and the next one doesn't go on
pub nothing-after : (d t : ℕ) (done : List Posting) (c : Posting) (left : List Posting) → IsList (done ++ c ∷ left) → c.doc.0 ≡ d → c.span.to ≡ t → Heads (λ p q. (p.doc.0 ≡ q.doc.0) → (p.span.to ≡ q.span.from) → ⊥) c left → frequency d t (done ++ c ∷ left) ≡ 0
nothing-after d t done c left l e f h =
    front-skip d t done c left l e (let o : c.span.from < c.span.to = c.span.ordered in omega (arith, f)) ∙ frequency-skip d t c left (λ x y z. omega (arith, z, f)) ∙ rest left (tail done l) h
  where
    tail : (done : List Posting) → IsList (done ++ c ∷ left) → IsList (c ∷ left)
    tail [] l = l
    tail (p ∷ done) l = tail done (next-tail ComesBefore p (done ++ c ∷ left) l)

    rest : (left : List Posting) → IsList (c ∷ left) → Heads (λ p q. (p.doc.0 ≡ q.doc.0) → (p.span.to ≡ q.span.from) → ⊥) c left → frequency d t left ≡ 0
    rest [] l h = refl
    rest (q ∷ left) l h = go l.0
      where
        go : ComesBefore c q → frequency d t (q ∷ left) ≡ 0
        go (inl a) = early d t q left l.1 (inl (omega (arith, a, e)))
        go (inr a) = early d t q left l.1 (inr (sym e ∙ a.0, elim (cases_lt c.span.to q.span.from) [ inl k ↦ omega (arith, k, f) | inr k ↦ absurd (h a.0 (omega (arith, a.1, k))) ]))
