-- The frequency that a list gives.
use Rattle.std.specs.Prelude.{◌≡◌, ◌⊎◌, ℕ, zero, suc, ◌<◌, ◌≤◌, ◌==◌, ◌&&◌, Bool, true, false, cond, List, [], ◌∷◌, Contains, refl}
use Rattle.std.proofs.Common.{arith, ap, sym, ◌∙◌, subst, inl, inr}
use Rattle.std.proofs.lemmas.Bool.Decides.{nat_tests}
use Rattle.base_types.specs.declared.posting.Posting.{Posting}
use Rattle.lists_postings.specs.Lists.{holds, ComesBefore, IsList, frequency, SameRows}
use Rattle.lists_postings.proofs.Order.{next-tail}

-- the posting is the document's and holds the time
abbrev pub is_row : ℕ → ℕ → Posting → Bool
is_row d t p = p.doc.0 == d && holds t p

pub row-tells : (d t : ℕ) (p : Posting) → is_row d t p ≡ true → (p.doc.0 ≡ d) × (p.span.from ≤ t) × (t < p.span.to)
row-tells d t p e = (grind (arith, nat_tests), grind (arith, nat_tests), grind (arith, nat_tests))

pub row-is : (d t : ℕ) (p : Posting) → p.doc.0 ≡ d → p.span.from ≤ t → t < p.span.to → is_row d t p ≡ true
row-is d t p e f g = grind (arith, nat_tests)

pub frequency-here : (d t : ℕ) (p : Posting) (list : List Posting) → p.doc.0 ≡ d → p.span.from ≤ t → t < p.span.to → frequency d t (p ∷ list) ≡ p.tf
frequency-here d t p list e f g = ap {B = ℕ} (λ b. cond b p.tf (frequency d t list)) (row-is d t p e f g)

pub frequency-skip : (d t : ℕ) (p : Posting) (list : List Posting) → (p.doc.0 ≡ d → p.span.from ≤ t → t < p.span.to → ⊥) → frequency d t (p ∷ list) ≡ frequency d t list
frequency-skip d t p list never = go (is_row d t p) refl
  where
    go : (b : Bool) → is_row d t p ≡ b → cond b p.tf (frequency d t list) ≡ frequency d t list
    go false e = refl
    go true e = let h = row-tells d t p e in absurd (never h.0 h.1 h.2)

-- document d at the time t stands before the posting
abbrev pub IsEarly : ℕ → ℕ → Posting → Type 0
IsEarly d t p = (d < p.doc.0) ⊎ ((d ≡ p.doc.0) × (t < p.span.from))

-- document d at the time t stands before the posting's end
abbrev pub IsBelow : ℕ → ℕ → Posting → Type 0
IsBelow d t p = (d < p.doc.0) ⊎ ((d ≡ p.doc.0) × (t < p.span.to))

early-below : (d t : ℕ) (p : Posting) → IsEarly d t p → IsBelow d t p
early-below d t p (inl h) = inl h
early-below d t p (inr h) = inr (h.0, let o : p.span.from < p.span.to = p.span.ordered in omega (arith, h.1))

early-next : (d t : ℕ) (p q : Posting) → ComesBefore p q → IsBelow d t p → IsEarly d t q
early-next d t p q (inl a) (inl h) = inl (omega (arith, a, h))
early-next d t p q (inl a) (inr h) = inl (omega (arith, a, h.0))
early-next d t p q (inr a) (inl h) = inl (omega (arith, a.0, h))
early-next d t p q (inr a) (inr h) = inr (h.0 ∙ a.0, omega (arith, a.1, h.1))

not-early : (d t : ℕ) (p : Posting) → IsEarly d t p → p.doc.0 ≡ d → p.span.from ≤ t → ⊥
not-early d t p (inl h) e f = omega (arith, h, e)
not-early d t p (inr h) e f = omega (arith, h.1)

-- a list has nothing of what stands before its first posting
pub early : (d t : ℕ) (p : Posting) (list : List Posting) → IsList (p ∷ list) → IsEarly d t p → frequency d t (p ∷ list) ≡ 0
early d t p [] l h = frequency-skip d t p [] (λ e f g. not-early d t p h e f)
early d t p (q ∷ list) l h = frequency-skip d t p (q ∷ list) (λ e f g. not-early d t p h e f) ∙ early d t q list l.1 (early-next d t p q l.0 (early-below d t p h))

-- what follows a posting has nothing before the posting's end
pub quiet : (d t : ℕ) (p : Posting) (list : List Posting) → IsList (p ∷ list) → IsBelow d t p → frequency d t list ≡ 0
quiet d t p [] l h = refl
quiet d t p (q ∷ list) l h = early d t q list l.1 (early-next d t p q l.0 h)

-- a posting of the list gives the frequency wherever it holds
pub frequency-of : (d t : ℕ) (p : Posting) (list : List Posting) → IsList list → Contains list p → p.doc.0 ≡ d → p.span.from ≤ t → t < p.span.to → frequency d t list ≡ p.tf
frequency-of d t p [] l (k, m, e) a b c = absurd (omega (arith, m))
frequency-of d t p (q ∷ list) l (zero, m, e) a b c = subst (λ w. frequency d t (w ∷ list) ≡ p.tf) (sym e) (frequency-here d t p list a b c)
frequency-of d t p (q ∷ list) l (suc k, m, e) a b c = go (is_row d t q) refl (frequency-of d t p list (next-tail ComesBefore q list l) (k, omega (arith, m), e) a b c)
  where
    go : (x : Bool) → is_row d t q ≡ x → frequency d t list ≡ p.tf → cond x q.tf (frequency d t list) ≡ p.tf
    go false y rest = rest
    go true y rest = let h = row-tells d t q y in absurd (omega (arith, rest, p.counted, quiet d t q list l (inr (sym h.0, h.2))))

-- where there is a frequency, a posting gives it
pub found : (d t : ℕ) (list : List Posting) → 0 < frequency d t list → (p : Posting) × Contains list p × (p.doc.0 ≡ d) × (p.span.from ≤ t) × (t < p.span.to) × (frequency d t list ≡ p.tf)
found d t [] h = absurd (omega (arith, h))
found d t (q ∷ list) h = go (is_row d t q) refl h (found d t list)
  where
    go : (x : Bool) → is_row d t q ≡ x → 0 < cond x q.tf (frequency d t list)
        → (0 < frequency d t list → (p : Posting) × Contains list p × (p.doc.0 ≡ d) × (p.span.from ≤ t) × (t < p.span.to) × (frequency d t list ≡ p.tf))
        → (p : Posting) × Contains (q ∷ list) p × (p.doc.0 ≡ d) × (p.span.from ≤ t) × (t < p.span.to) × (cond x q.tf (frequency d t list) ≡ p.tf)
    go true y n rest = let h = row-tells d t q y in (q, (zero, omega arith, refl), h.0, h.1, h.2, refl)
    go false y n rest = let (p, c, a, b, e, f) = rest n in (p, (suc c.0, omega (arith, c.1), c.2), a, b, e, f)

-- the same posting before two lists with the same rows
pub rows-cons : (p : Posting) (a b : List Posting) → SameRows a b → SameRows (p ∷ a) (p ∷ b)
rows-cons p a b s d t = ap {B = ℕ} (λ n. cond (is_row d t p) p.tf n) (s d t)

-- what follows one posting in two lists with the same rows
pub rows-tail : (p : Posting) (a b : List Posting) → IsList (p ∷ a) → IsList (p ∷ b) → SameRows (p ∷ a) (p ∷ b) → SameRows a b
rows-tail p a b la lb s d t = go (is_row d t p) refl (s d t)
  where
    go : (c : Bool) → is_row d t p ≡ c → cond c p.tf (frequency d t a) ≡ cond c p.tf (frequency d t b) → frequency d t a ≡ frequency d t b
    go false e h = h
    go true e h = let i = row-tells d t p e in quiet d t p a la (inr (sym i.0, i.2)) ∙ sym (quiet d t p b lb (inr (sym i.0, i.2)))
