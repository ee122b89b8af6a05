-- One stretch more behind others.
use Rattle.std.specs.Prelude.{◌≡◌, ◌≢◌, ◌⊎◌, ℕ, ◌-◌, ◌<◌, ◌≤◌, Bool, true, false, if◌then◌else◌, List, [], ◌∷◌, ◌++◌, Option, Some, None, refl}
use Rattle.std.proofs.Common.{arith, ap, sym, ◌∙◌, inl, inr, append-nil, append_assoc}
use Rattle.std.proofs.lemmas.Bool.{cases_lt}
use Rattle.std.proofs.lemmas.Bool.Decides.{nat_tests}
use Rattle.lists_postings.specs.Lists.{EachNext}
use Rattle.lists_postings.specs.Stretches.{Kind, Before}
use Rattle.lists_postings.specs.Laid.{holds, at, Continues, IsJoined, Apart, AreLaid, with_row, IsBehind}
use Rattle.lists_postings.proofs.Laid.{tests_hold, hold_tests}

next-last : {X : Type 0} (R : X → X → Type 0) (front : List X) (p r : X) → EachNext R (front ++ p ∷ []) → R p r → EachNext R (front ++ p ∷ r ∷ [])
next-last R [] p r h x = (x, tt)
next-last R (q ∷ []) p r h x = (h.0, (x, tt))
next-last R (q ∷ s ∷ front) p r h x = (h.0, next-last R (s ∷ front) p r h.1 x)

last-for : {X : Type 0} (R : X → X → Type 0) (front : List X) (p j : X) → ((q : X) → R q p → R q j) → EachNext R (front ++ p ∷ []) → EachNext R (front ++ j ∷ [])
last-for R [] p j w h = tt
last-for R (q ∷ []) p j w h = (w q h.0, tt)
last-for R (q ∷ s ∷ front) p j w h = (h.0, last-for R (s ∷ front) p j w h.1)

module _ {R V : Type 0} (k : Kind R V) where
  -- where a list says nothing, its front doesn't, and what follows is heard
  unsaid : (d t : ℕ) (xs ys : List R) → at k d t (xs ++ ys) ≡ None → (zs : List R) → at k d t (xs ++ zs) ≡ at k d t zs
  unsaid d t [] ys e zs = refl
  unsaid d t (x ∷ xs) ys e zs = go (holds k d t x) e (λ h. unsaid d t xs ys h zs)
    where
      go : (b : Bool) → (if b then Some (k.value x) else at k d t (xs ++ ys)) ≡ None → (at k d t (xs ++ ys) ≡ None → at k d t (xs ++ zs) ≡ at k d t zs) → (if b then Some (k.value x) else at k d t (xs ++ zs)) ≡ at k d t zs
      go true e rest = absurd cc
      go false e rest = rest e

  front-same : (d t : ℕ) (xs ys zs : List R) → at k d t ys ≡ at k d t zs → at k d t (xs ++ ys) ≡ at k d t (xs ++ zs)
  front-same d t [] ys zs e = e
  front-same d t (x ∷ xs) ys zs e = ap (λ v. if holds k d t x then Some (k.value x) else v) (front-same d t xs ys zs e)

  -- where a list says nothing, its last stretch doesn't hold the time
  unheld : (d t : ℕ) (front : List R) (p : R) → at k d t (front ++ p ∷ []) ≡ None → holds k d t p ≡ true → ⊥
  unheld d t front p e h = let one = unsaid d t front (p ∷ []) e (p ∷ []) in let two = ap (λ b. if b then Some (k.value p) else (let n : Option V = None in n)) h in absurd cc

  module _ (f : ℕ → ℕ → Option V) (r : R) (behind : IsBehind k f r) where
    held-none : (d t : ℕ) (rows : List R) → AreLaid k f rows → holds k d t r ≡ true → at k d t rows ≡ None
    held-none d t rows h x = let (i, l, m) = tests_hold d (k.doc r) (k.from r) t (k.to r) x in h.same d t ∙ behind d t (inr (sym i, l))

    -- the last stretch stands before the new one
    last-before : (front : List R) (p : R) → AreLaid k f (front ++ p ∷ []) → Before k p r
    last-before front p h = elim (cases_lt (k.doc p) (k.doc r)) [
      | inl l ↦ inl l
      | inr l ↦ elim (cases_lt (k.doc r) (k.doc p)) [
        | inl m ↦ absurd (no (inl m))
        | inr m ↦ elim (cases_lt (k.from r) (k.to p)) [
          | inl n ↦ absurd (no (inr (omega (arith, l, m), omega (arith, n))))
          | inr n ↦ inr (omega (arith, l, m), omega (arith, n))
        ]
      ]
    ]
      where
        no : (k.doc r < k.doc p) ⊎ ((k.doc p ≡ k.doc r) × (k.from r ≤ k.to p - 1)) → ⊥
        no x = let s = k.some p in unheld (k.doc p) (k.to p - 1) front p (h.same (k.doc p) (k.to p - 1) ∙ behind (k.doc p) (k.to p - 1) x) (hold_tests (k.doc p) (k.doc p) (k.from p) (k.to p - 1) (k.to p) refl (omega (arith, s)) (omega (arith, s)))

    -- the new stretch is put behind
    pushed-same : (rows : List R) → AreLaid k f rows → (d t : ℕ) → at k d t (rows ++ r ∷ []) ≡ with_row k f r d t
    pushed-same rows h d t = go (holds k d t r) refl
      where
        go : (b : Bool) → holds k d t r ≡ b → at k d t (rows ++ r ∷ []) ≡ (if b then Some (k.value r) else f d t)
        go true x = unsaid d t rows [] (rw (append-nil rows) (held-none d t rows h x)) (r ∷ []) ∙ ap (λ b. if b then Some (k.value r) else (let n : Option V = None in n)) x
        go false x = front-same d t rows (r ∷ []) [] (ap (λ b. if b then Some (k.value r) else (let n : Option V = None in n)) x) ∙ ap (λ l. at k d t l) (append-nil rows) ∙ h.same d t

    pub first-pushed : AreLaid k f [] → AreLaid k (with_row k f r) (r ∷ [])
    first-pushed h = record { apart = tt; same = pushed-same [] h }

    pub pushed : (front : List R) (p : R) → ¬ (Continues k p r) → AreLaid k f (front ++ p ∷ []) → AreLaid k (with_row k f r) ((front ++ p ∷ []) ++ r ∷ [])
    pushed front p n h = record { apart = rw append_assoc (next-last (Apart k) front p r h.apart (elim (last-before front p h) [ inl l ↦ inl l | inr l ↦ inr (l.0, touch l.0 l.1) ])); same = pushed-same (front ++ p ∷ []) h }
      where
        touch : k.doc p ≡ k.doc r → k.to p ≤ k.from r → (k.to p < k.from r) ⊎ ((k.to p ≡ k.from r) × (k.value p ≢ k.value r))
        touch d l = elim (cases_lt (k.to p) (k.from r)) [ inl m ↦ inl m | inr m ↦ inr (omega (arith, l, m), λ e. n (record { doc = d; at = omega (arith, l, m); value = e })) ]

    -- or it is joined to the last one
    pub joined : (front : List R) (p j : R) → Continues k p r → IsJoined k p r j → AreLaid k f (front ++ p ∷ []) → AreLaid k (with_row k f r) (front ++ j ∷ [])
    joined front p j c i h = record {
      apart = last-for (Apart k) front p j ahead h.apart;
      same = λ d t. go d t (holds k d t r) refl;
    }
      where
        ahead : (q : R) → Apart k q p → Apart k q j
        ahead q (inl l) = inl (omega (arith, l, i.doc))
        ahead q (inr (d, inl l)) = inr (d ∙ sym i.doc, inl (omega (arith, l, i.from)))
        ahead q (inr (d, inr l)) = inr (d ∙ sym i.doc, inr (l.0 ∙ sym i.from, λ e. l.1 (e ∙ i.value)))

        wider : (d t : ℕ) → holds k d t r ≡ true → holds k d t j ≡ true
        wider d t x = let (y, l, m) = tests_hold d (k.doc r) (k.from r) t (k.to r) x in let s = k.some p in hold_tests d (k.doc j) (k.from j) t (k.to j) (i.doc ∙ c.doc ∙ y) (omega (arith, i.from, c.at, l, s)) (omega (arith, i.to, m))

        alike : (d t : ℕ) → holds k d t r ≡ false → holds k d t j ≡ holds k d t p
        alike d t x =
            let e1 = i.doc in let e2 = i.from in let e3 = i.to in let e4 = c.doc in let e5 = c.at in let s = k.some p in let u = k.some r in
            grind (arith, nat_tests)

        alone : (d t : ℕ) → holds k d t r ≡ false → at k d t (j ∷ []) ≡ at k d t (p ∷ [])
        alone d t x = ap (λ b. if b then Some (k.value j) else (let n : Option V = None in n)) (alike d t x) ∙ ap (λ v. if holds k d t p then Some v else None) i.value

        go : (d t : ℕ) (b : Bool) → holds k d t r ≡ b → at k d t (front ++ j ∷ []) ≡ (if b then Some (k.value r) else f d t)
        go d t true x = unsaid d t front (p ∷ []) (held-none d t (front ++ p ∷ []) h x) (j ∷ []) ∙ ap (λ b. if b then Some (k.value j) else (let n : Option V = None in n)) (wider d t x) ∙ ap (λ v. Some v) (i.value ∙ c.value)
        go d t false x = front-same d t front (j ∷ []) (p ∷ []) (alone d t x) ∙ h.same d t
