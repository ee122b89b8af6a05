-- The list of a frequency has exactly the longest spans of one frequency.
use Rattle.std.specs.Prelude.{◌≡◌, ◌≢◌, ◌⊎◌, ◌↔◌, ℕ, ◌-◌, ◌<◌, ◌≤◌, List, Contains, refl}
use Rattle.std.proofs.Common.{arith, ap, sym, ◌∙◌, subst, inl, inr}
use Rattle.std.proofs.lemmas.Bool.{cases_eq, cases_lt, cases_order}
use Rattle.std.proofs.lemmas.List.Elements.{All-contains}
use Rattle.base_types.specs.declared.posting.Posting.{Posting}
use Rattle.base_types.proofs.Equal.{same_posting}
use Rattle.lists_postings.specs.Lists.{ComesBefore, IsList, IsCoalesced, Continues, frequency}
use Rattle.lists_postings.specs.ListsOf.{IsListOf, IsLongest}
use Rattle.lists_postings.proofs.Order.{IsApart, apart-trans, apart, next-pairs}
use Rattle.lists_postings.proofs.Frequencies.{frequency-of, found}
use Rattle.lists_postings.proofs.Clipping.{IsInside}

-- a coalesced list has no posting that goes on where another ends
touching : (p q : Posting) (list : List Posting) → IsList list → IsCoalesced list → Contains list p → Contains list q → Continues p q → ⊥
touching p q list l c x y k = elim (next-pairs IsApart apart-trans p q list (apart list l c) x y) [
  | inl e ↦ let o : p.span.from < p.span.to = p.span.ordered in omega (arith, k.at, ap {B = ℕ} (λ w. w.span.from) e)
  | inr o ↦ elim o [ inl a ↦ a.1 k | inr a ↦ behind a.0 ]
]
  where
    behind : ComesBefore q p → ⊥
    behind (inl h) = omega (arith, h, k.doc)
    behind (inr h) = let o : p.span.from < p.span.to = p.span.ordered in let n : q.span.from < q.span.to = q.span.ordered in omega (arith, h.1, k.at)

-- two postings of a list that hold one time of one document are one
alike : (p q : Posting) (t : ℕ) (list : List Posting) → IsList list → IsCoalesced list → Contains list p → Contains list q → p.doc.0 ≡ q.doc.0 → p.span.from ≤ t → t < p.span.to → q.span.from ≤ t → t < q.span.to → p ≡ q
alike p q t list l c x y d pf pt qf qt = elim (next-pairs IsApart apart-trans p q list (apart list l c) x y) [
  | inl e ↦ e
  | inr o ↦ elim o [ inl a ↦ absurd (one a.0) | inr a ↦ absurd (two a.0) ]
]
  where
    one : ComesBefore p q → ⊥
    one (inl h) = omega (arith, h, d)
    one (inr h) = omega (arith, h.1, pt, qf)

    two : ComesBefore q p → ⊥
    two (inl h) = omega (arith, h, d)
    two (inr h) = omega (arith, h.1, qt, pf)

longest : (f : ℕ → ℕ → ℕ) (a b : ℕ) (list : List Posting) → IsListOf f a b list → (p : Posting) → Contains list p → IsLongest f a b p
longest f a b list h p c = record {
  begins = i.0;
  ends = i.1;
  same = λ t x y. sym (h.same p.doc.0 t (omega (arith, i.0, x)) (omega (arith, i.1, y))) ∙ frequency-of p.doc.0 t p list h.ordered c refl x y;
  new = elim (cases_eq p.span.from a) [ inl e ↦ inl e | inr n ↦ inr (λ e. before n e) ];
  over = elim (cases_eq p.span.to b) [ inl e ↦ inl e | inr n ↦ inr (λ e. after n e) ];
}
  where
    i : IsInside a b p
    i = All-contains (IsInside a b) list p h.inside c

    o : p.span.from < p.span.to
    o = p.span.ordered

    before : p.span.from ≢ a → f p.doc.0 (p.span.from - 1) ≡ p.tf → ⊥
    before n e =
        let u : frequency p.doc.0 (p.span.from - 1) list ≡ p.tf = h.same p.doc.0 (p.span.from - 1) (omega (arith, i.0, n)) (omega (arith, i.1, o)) ∙ e in
        let (q, m, d, x, y, z) = found p.doc.0 (p.span.from - 1) list (omega (arith, u, p.counted)) in
        elim (cases_lt p.span.from q.span.to) [
          | inl k ↦ let same : p ≡ q = alike p q p.span.from list h.ordered h.coalesced c m (sym d) (omega arith) o (omega (arith, x)) k in omega (arith, i.0, n, x, ap {B = ℕ} (λ w. w.span.from) same)
          | inr k ↦ touching q p list h.ordered h.coalesced m c (record { doc = d; tf = sym z ∙ u; at = omega (arith, i.0, n, y, k) })
        ]

    after : p.span.to ≢ b → f p.doc.0 p.span.to ≡ p.tf → ⊥
    after n e =
        let u : frequency p.doc.0 p.span.to list ≡ p.tf = h.same p.doc.0 p.span.to (omega (arith, i.0, o)) (omega (arith, i.1, n)) ∙ e in
        let (q, m, d, x, y, z) = found p.doc.0 p.span.to list (omega (arith, u, p.counted)) in
        elim (cases_lt q.span.from p.span.to) [
          | inl k ↦ let same : p ≡ q = alike p q (p.span.to - 1) list h.ordered h.coalesced c m (sym d) (omega (arith, o)) (omega (arith, o)) (omega (arith, k)) (omega (arith, y)) in omega (arith, y, ap {B = ℕ} (λ w. w.span.to) same)
          | inr k ↦ touching p q list h.ordered h.coalesced c m (record { doc = sym d; tf = sym u ∙ z; at = omega (arith, x, k) })
        ]

equal : (a b : ℕ) → (a < b → ⊥) → (b < a → ⊥) → a ≡ b
equal a b x y = elim (cases_order a b) [ inl e ↦ e | inr o ↦ elim o [ inl l ↦ absurd (x l) | inr l ↦ absurd (y l) ] ]

-- of two longest spans of one frequency that share a time, neither begins or ends sooner
sooner : (f : ℕ → ℕ → ℕ) (a b : ℕ) (p q : Posting) → IsLongest f a b p → IsLongest f a b q → p.doc.0 ≡ q.doc.0 → p.tf ≡ q.tf → p.span.from < q.span.to → q.span.from < p.span.from → ⊥
sooner f a b p q hp hq d n k h = go hp.new
  where
    go : (p.span.from ≡ a) ⊎ (f p.doc.0 (p.span.from - 1) ≢ p.tf) → ⊥
    go (inl e) = omega (arith, hq.begins, e, h)
    go (inr m) = m (ap (λ w. f w (p.span.from - 1)) d ∙ hq.same (p.span.from - 1) (omega (arith, h)) (omega (arith, k)) ∙ sym n)

later : (f : ℕ → ℕ → ℕ) (a b : ℕ) (p q : Posting) → IsLongest f a b p → IsLongest f a b q → p.doc.0 ≡ q.doc.0 → p.tf ≡ q.tf → q.span.from < p.span.to → p.span.to < q.span.to → ⊥
later f a b p q hp hq d n k h = go hp.over
  where
    go : (p.span.to ≡ b) ⊎ (f p.doc.0 p.span.to ≢ p.tf) → ⊥
    go (inl e) = omega (arith, hq.ends, e, h)
    go (inr m) = m (ap (λ w. f w p.span.to) d ∙ hq.same p.span.to (omega (arith, k)) h ∙ sym n)

listed : (f : ℕ → ℕ → ℕ) (a b : ℕ) (list : List Posting) → IsListOf f a b list → (p : Posting) → IsLongest f a b p → Contains list p
listed f a b list h p w =
    let o : p.span.from < p.span.to = p.span.ordered in
    let u : frequency p.doc.0 p.span.from list ≡ p.tf = h.same p.doc.0 p.span.from w.begins (omega (arith, o, w.ends)) ∙ w.same p.span.from (omega arith) o in
    let (q, c, d, x, y, z) = found p.doc.0 p.span.from list (omega (arith, u, p.counted)) in
    let k : IsLongest f a b q = longest f a b list h q c in
    let n : q.tf ≡ p.tf = sym z ∙ u in
    let e : q ≡ p = same_posting q p d
    (equal q.span.from p.span.from (λ s. sooner f a b p q w k (sym d) (sym n) y s) (λ s. omega (arith, x, s)))
    (equal q.span.to p.span.to (λ s. later f a b q p k w d n y s) (λ s. later f a b p q w k (sym d) (sym n) (omega (arith, x, o)) s))
    n in
    subst (λ r. Contains list r) e c

pub longest_spans : (f : ℕ → ℕ → ℕ) (a b : ℕ) (list : List Posting) → IsListOf f a b list → (p : Posting) → Contains list p ↔ IsLongest f a b p
longest_spans f a b list h p = (longest f a b list h p, listed f a b list h p)
