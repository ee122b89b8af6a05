-- A list has at most one longest-first approximation.
use Rattle.std.specs.Prelude.{◌≡◌, ℕ, zero, suc, ◌<◌, ◌≤◌, Bool, true, false, cond, List, [], ◌∷◌, Contains, refl}
use Rattle.std.proofs.Common.{arith, sym, subst, inl, inr}
use Rattle.std.proofs.lemmas.Bool.{cases_order}
use Rattle.base_types.specs.declared.posting.Posting.{Posting}
use Rattle.base_types.proofs.Equal.{same_posting}
use Rattle.lists_postings.specs.Lists.{ComesBefore, IsList, frequency}
use Rattle.lists_postings.proofs.Order.{next-tail}
use Rattle.lists_postings.proofs.Frequencies.{is_row, IsEarly, row-tells, frequency-of, frequency-here, early, quiet}
use Rattle.lists_approx.specs.Approximations.{IsNear, IsNearAll, IsLongestFirst}
use Rattle.base_types.specs.declared.tolerance.Tolerance.{Tolerance}
use Rattle.lists_approx.proofs.Near.{near_none, none_near}

-- two lists have postings of each document at the same times
abbrev Agree : List Posting → List Posting → Type 0
Agree a b = (d t : ℕ) → (frequency d t a ≡ 0 → frequency d t b ≡ 0) × (frequency d t b ≡ 0 → frequency d t a ≡ 0)

-- postings of two lists that begin together are one
abbrev Match : List Posting → List Posting → Type 0
Match a b = (p q : Posting) → Contains a p → Contains b q → p.doc.0 ≡ q.doc.0 → p.span.from ≡ q.span.from → (p.tf ≡ q.tf) × (p.span.to ≡ q.span.to)

flip : (a b : List Posting) → Agree a b → Agree b a
flip a b h d t = ((h d t).1, (h d t).0)

not-sooner : (p q : Posting) (a b : List Posting) → IsList (q ∷ b) → Agree (p ∷ a) (q ∷ b) → IsEarly p.doc.0 p.span.from q → ⊥
not-sooner p q a b lb s h = let z : frequency p.doc.0 p.span.from (p ∷ a) ≡ 0 = (s p.doc.0 p.span.from).1 (early p.doc.0 p.span.from q b lb h) in omega (arith, z, frequency-here p.doc.0 p.span.from p a refl (omega arith) p.span.ordered, p.counted)

equal : (a b : ℕ) → (a < b → ⊥) → (b < a → ⊥) → a ≡ b
equal a b x y = elim (cases_order a b) [ inl e ↦ e | inr o ↦ elim o [ inl l ↦ absurd (x l) | inr l ↦ absurd (y l) ] ]

first : (p q : Posting) (a b : List Posting) → IsList (p ∷ a) → IsList (q ∷ b) → Agree (p ∷ a) (q ∷ b) → Match (p ∷ a) (q ∷ b) → p ≡ q
first p q a b la lb s m =
    let d : p.doc.0 ≡ q.doc.0 = equal p.doc.0 q.doc.0 (λ h. not-sooner p q a b lb s (inl h)) (λ h. not-sooner q p b a la (flip (p ∷ a) (q ∷ b) s) (inl h)) in
    let f : p.span.from ≡ q.span.from = equal p.span.from q.span.from (λ h. not-sooner p q a b lb s (inr (d, h))) (λ h. not-sooner q p b a la (flip (p ∷ a) (q ∷ b) s) (inr (sym d, h))) in
    let e : (p.tf ≡ q.tf) × (p.span.to ≡ q.span.to) = m p q (zero, omega arith, refl) (zero, omega arith, refl) d f in
    same_posting p q d f e.1 e.0

-- what follows the same posting
agree-tail : (p : Posting) (a b : List Posting) → IsList (p ∷ a) → IsList (p ∷ b) → Agree (p ∷ a) (p ∷ b) → Agree a b
agree-tail p a b la lb s d t = go (is_row d t p) refl (s d t)
  where
    go : (c : Bool) → is_row d t p ≡ c → (cond c p.tf (frequency d t a) ≡ 0 → cond c p.tf (frequency d t b) ≡ 0) × (cond c p.tf (frequency d t b) ≡ 0 → cond c p.tf (frequency d t a) ≡ 0)
        → (frequency d t a ≡ 0 → frequency d t b ≡ 0) × (frequency d t b ≡ 0 → frequency d t a ≡ 0)
    go false e h = h
    go true e h = let i = row-tells d t p e in (λ x. quiet d t p b lb (inr (sym i.0, i.2)), λ x. quiet d t p a la (inr (sym i.0, i.2)))

same : (a b : List Posting) → IsList a → IsList b → Agree a b → Match a b → a ≡ b
same [] [] la lb s m = refl
same [] (q ∷ b) la lb s m = absurd (omega (arith, (s q.doc.0 q.span.from).0 refl, frequency-here q.doc.0 q.span.from q b refl (omega arith) q.span.ordered, q.counted))
same (p ∷ a) [] la lb s m = absurd (omega (arith, (s p.doc.0 p.span.from).1 refl, frequency-here p.doc.0 p.span.from p a refl (omega arith) p.span.ordered, p.counted))
same (p ∷ a) (q ∷ b) la lb s m =
    let e : p ≡ q = first p q a b la lb s m in
    let lb' : IsList (p ∷ b) = subst (λ x. IsList (x ∷ b)) (sym e) lb in
    let s' : Agree (p ∷ a) (p ∷ b) = subst (λ x. Agree (p ∷ a) (x ∷ b)) (sym e) s in
    let r : a ≡ b = same a b (next-tail ComesBefore p a la) (next-tail ComesBefore q b lb) (agree-tail p a b la lb' s') (λ x y c d. m x y (suc c.0, omega (arith, c.1), c.2) (suc d.0, omega (arith, d.1), d.2)) in
    cc

module _ (tolerance : Tolerance) (list : List Posting) where
  near-all : (short : List Posting) (p : Posting) → IsLongestFirst tolerance list short → Contains short p → IsNearAll tolerance list p.doc.0 p.span.from p.span.to p.tf
  near-all short p h c t x y = subst (λ n. IsNear tolerance n (frequency p.doc.0 t list)) (frequency-of p.doc.0 t p short h.ordered c refl x y) (h.near p.doc.0 t)

  least : (a b : List Posting) (p q : Posting) → IsLongestFirst tolerance list a → IsLongestFirst tolerance list b → Contains a p → Contains b q → p.doc.0 ≡ q.doc.0 → p.span.from ≡ q.span.from → p.span.to ≡ q.span.to → p.tf ≤ q.tf
  least a b p q ha hb c k d f e = ha.least p q.tf c (λ t x y. subst (λ n. IsNear tolerance q.tf (frequency n t list)) (sym d) (near-all b q hb k t (omega (arith, f, x)) (omega (arith, e, y))))

  matching : (a b : List Posting) → IsLongestFirst tolerance list a → IsLongestFirst tolerance list b → Match a b
  matching a b ha hb p q c k d f =
      let e : p.span.to ≡ q.span.to = omega (arith, ha.longest b p q hb.ordered hb.near c k (sym d) (sym f), hb.longest a q p ha.ordered ha.near k c d f) in
      (omega (arith, least a b p q ha hb c k d f e, least b a q p hb ha k c (sym d) (sym f) (sym e)), e)

  none-of : (a b : List Posting) → IsLongestFirst tolerance list a → IsLongestFirst tolerance list b → (d t : ℕ) → frequency d t a ≡ 0 → frequency d t b ≡ 0
  none-of a b ha hb d t e = near_none tolerance (frequency d t b) (frequency d t list) (hb.near d t) (none_near tolerance (frequency d t a) (frequency d t list) (ha.near d t) e)

  pub one_longest_first : (a b : List Posting) → IsLongestFirst tolerance list a → IsLongestFirst tolerance list b → a ≡ b
  one_longest_first a b ha hb = same a b ha.ordered hb.ordered (λ d t. (none-of a b ha hb d t, none-of b a hb ha d t)) (matching a b ha hb)
