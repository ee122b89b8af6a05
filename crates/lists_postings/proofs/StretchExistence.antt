-- There are longest stretches: one of each time, put one behind the other.
use Rattle.std.specs.Prelude.{◌≡◌, ◌≢◌, ◌⊎◌, ℕ, zero, suc, ◌+◌, ◌-◌, ◌^◌, ◌<◌, ◌≤◌, ◌==◌, ◌&&◌, ◌||◌, Bool, true, false, if◌then◌else◌, nat_le, nat_lt, List, [], ◌∷◌, ◌++◌, Option, Some, None, refl}
use Rattle.std.proofs.Common.{arith, ap, sym, ◌∙◌, subst, inl, inr}
use Rattle.std.proofs.lemmas.Bool.{cases_eq, cases_lt}
use Rattle.std.proofs.lemmas.Bool.Decides.{nat_tests}
use Rattle.lists_postings.specs.Stretches.{Kind}
use Rattle.lists_postings.specs.Laid.{holds, Continues, AreLaid, with_row, IsBehind}
use Rattle.lists_postings.specs.Events.{inside}
use Rattle.lists_postings.specs.StretchLaws.{AreMade, EachHasStretches}
use Rattle.lists_postings.proofs.Joining.{first-pushed, pushed, joined}
use Rattle.lists_postings.proofs.Laid.{laid-longest}
use Rattle.lists_postings.proofs.Pieces.{inside-or, nothing}

last-of : {R : Type 0} (rows : List R) → (rows ≡ []) ⊎ ((front : List R) × (p : R) × (rows ≡ front ++ p ∷ []))
last-of [] = inl refl
last-of (r ∷ rows) = elim (last-of rows) [
  | inl e ↦ inr ([], r, ap (λ l. r ∷ l) e)
  | inr h ↦ (let (front, p, e) = h in inr (r ∷ front, p, ap (λ l. r ∷ l) e))
]

module _ {R V : Type 0} (k : Kind R V) (made : AreMade k) (tell : (v w : V) → (v ≡ w) ⊎ (v ≢ w)) where
  continues : (p q : R) → Continues k p q ⊎ ¬ (Continues k p q)
  continues p q = elim (cases_eq (k.doc p) (k.doc q)) [
    | inr n ↦ inr (λ c. n c.doc)
    | inl d ↦ elim (cases_eq (k.to p) (k.from q)) [
      | inr n ↦ inr (λ c. n c.at)
      | inl t ↦ elim (tell (k.value p) (k.value q)) [ inr n ↦ inr (λ c. n c.value) | inl v ↦ inl (record { doc = d; at = t; value = v }) ]
    ]
  ]

  -- one stretch more behind others
  more : (g : ℕ → ℕ → Option V) (r : R) (rows : List R) → k.to r ≤ 2 ^ 40 → IsBehind k g r → AreLaid k g rows → (l : List R) × AreLaid k (with_row k g r) l
  more g r rows small b h = elim (last-of rows) [
    | inl e ↦ (r ∷ [], first-pushed k g r b (subst (AreLaid k g) e h))
    | inr w ↦ (let (front, p, e) = w in let l = subst (AreLaid k g) e h in elim (continues p r) [
      | inr n ↦ ((front ++ p ∷ []) ++ r ∷ [], pushed k g r b front p n l)
      | inl c ↦ (let o = k.some p in let q = k.some r in let (j, d, s, t, v) = made (k.doc p) (k.from p) (k.to r) (k.value p) (omega (arith, o, q, c.at)) small in (front ++ j ∷ [], joined k g r b front p j c (record { doc = d; from = s; to = t; value = v }) l))
    ])
  ]

  module _ (f : ℕ → ℕ → Option V) (D a b : ℕ) (end : b ≤ 2 ^ 40) (rest : (d t : ℕ) → D ≤ d → f d t ≡ None) where
    -- the time lies before the time s of the document d
    abbrev sooner : ℕ → ℕ → ℕ → ℕ → Bool
    sooner d s e t = nat_lt e d || ((e == d) && nat_lt t s)

    abbrev upto : ℕ → ℕ → ℕ → ℕ → Option V
    upto d s e t = if sooner d s e t then inside f a b e t else None

    moved : (g h : ℕ → ℕ → Option V) (rows : List R) → ((e t : ℕ) → g e t ≡ h e t) → AreLaid k g rows → AreLaid k h rows
    moved g h rows w p = record { apart = p.apart; same = λ e t. p.same e t ∙ w e t }

    at-this : (d s e t : ℕ) → ((e ≡ d) × (t ≡ s) × (sooner d s e t ≡ false) × (sooner d (s + 1) e t ≡ true)) ⊎ ((((e ≡ d) × (t ≡ s)) → ⊥) × (sooner d (s + 1) e t ≡ sooner d s e t))
    at-this d s e t = elim (cases_eq e d) [
      | inl i ↦ elim (cases_eq t s) [
        | inl j ↦ inl (i, j, grind (arith, nat_tests), grind (arith, nat_tests))
        | inr n ↦ inr (λ q. n q.1, grind (arith, nat_tests))
      ]
      | inr n ↦ inr (λ q. n q.0, grind (arith, nat_tests))
    ]

    in-it : (d s : ℕ) → a ≤ s → s < b → inside f a b d s ≡ f d s
    in-it d s x y = ap (λ c. if c then f d s else None) (let h : nat_le a s && nat_lt s b ≡ true = grind (arith, nat_tests) in h)

    -- one time further
    further : (d s : ℕ) (rows : List R) → a ≤ s → s < b → AreLaid k (upto d s) rows → (l : List R) × AreLaid k (upto d (s + 1)) l
    further d s rows x y h = go (f d s) refl
      where
        skipped : f d s ≡ None → (e t : ℕ) → upto d s e t ≡ upto d (s + 1) e t
        skipped z e t = elim (at-this d s e t) [
          | inl q ↦ (let (i, j, m, n) = q in ap (λ c. if c then inside f a b e t else None) m ∙ sym (ap (λ c. if c then inside f a b e t else None) n ∙ ap (λ w. inside f a b w t) i ∙ ap (inside f a b d) j ∙ in-it d s x y ∙ z))
          | inr q ↦ ap (λ c. if c then inside f a b e t else None) (sym q.1)
        ]

        behind : (r : R) → k.doc r ≡ d → k.from r ≡ s → IsBehind k (upto d s) r
        behind r i j e t o = ap (λ c. if c then inside f a b e t else None) (elim o [ inl l ↦ late (inl (omega (arith, l, i))) | inr l ↦ late (inr (l.0 ∙ i, omega (arith, l.1, j))) ])
          where
            late : (d < e) ⊎ ((e ≡ d) × (s ≤ t)) → sooner d s e t ≡ false
            late (inl l) = grind (arith, nat_tests)
            late (inr l) = let p = l.0 in let q = l.1 in grind (arith, nat_tests)

        taken : (v : V) (r : R) → f d s ≡ Some v → k.doc r ≡ d → k.from r ≡ s → k.to r ≡ s + 1 → k.value r ≡ v → (e t : ℕ) → with_row k (upto d s) r e t ≡ upto d (s + 1) e t
        taken v r z i j m n e t = elim (at-this d s e t) [
          | inl q ↦ (let (p, o, u, w) = q in
              ap (λ c. if c then Some (k.value r) else upto d s e t) (yes p o) ∙ ap (λ c. Some c) n ∙ sym z
              ∙ sym (ap (λ c. if c then inside f a b e t else None) w ∙ ap (λ w. inside f a b w t) p ∙ ap (inside f a b d) o ∙ in-it d s x y))
          | inr q ↦ ap (λ c. if c then Some (k.value r) else upto d s e t) (no q.0) ∙ ap (λ c. if c then inside f a b e t else None) (sym q.1)
        ]
          where
            yes : e ≡ d → t ≡ s → holds k e t r ≡ true
            yes p o = grind (arith, nat_tests)

            no : ((e ≡ d) × (t ≡ s) → ⊥) → holds k e t r ≡ false
            no q = elim (cases_eq e d) [
              | inl p ↦ elim (cases_eq t s) [ inl o ↦ absurd (q (p, o)) | inr o ↦ grind (arith, nat_tests) ]
              | inr p ↦ grind (arith, nat_tests)
            ]

        go : (o : Option V) → f d s ≡ o → (l : List R) × AreLaid k (upto d (s + 1)) l
        go None z = (rows, moved (upto d s) (upto d (s + 1)) rows (skipped z) h)
        go (Some v) z =
            let (r, i, j, m, n) = made d s (s + 1) v (omega arith) (omega (arith, y, end)) in
            let (l, p) = more (upto d s) r rows (omega (arith, m, y, end)) (behind r i j) h in (l, moved (with_row k (upto d s) r) (upto d (s + 1)) l (taken v r z i j m n) p)

    times : (n d : ℕ) (rows : List R) → a + n ≤ b → AreLaid k (upto d a) rows → (l : List R) × AreLaid k (upto d (a + n)) l
    times zero d rows x h = (rows, subst (λ s. AreLaid k (upto d s) rows) (omega arith) h)
    times (suc n) d rows x h = let (l, p) = times n d rows (omega (arith, x)) h in let (m, q) = further d (a + n) l (omega arith) (omega (arith, x)) p in (m, subst (λ s. AreLaid k (upto d s) m) (omega arith) q)

    quiet : (e t : ℕ) (q : Bool) → inside f a b e t ≡ None → (if q then inside f a b e t else None) ≡ (let n : Option V = None in n)
    quiet e t q z = ap (λ v. if q then v else None) z ∙ nothing q

    next-doc : (n d : ℕ) → a + n ≡ b → (e t : ℕ) → upto d (a + n) e t ≡ upto (d + 1) a e t
    next-doc n d x e t = elim (inside-or f a b e t) [
      | inl i ↦ ap (λ c. if c then inside f a b e t else None) (same i.0 i.1)
      | inr m ↦ quiet e t (sooner d (a + n) e t) m.1 ∙ sym (quiet e t (sooner (d + 1) a e t) m.1)
    ]
      where
        same : a ≤ t → t < b → sooner d (a + n) e t ≡ sooner (d + 1) a e t
        same p q = grind (arith, nat_tests)

    none-yet : (e t : ℕ) → None ≡ upto 0 a e t
    none-yet e t = elim (inside-or f a b e t) [
      | inl i ↦ ap (λ c. if c then inside f a b e t else None) (not-yet i.0)
      | inr m ↦ sym (quiet e t (sooner 0 a e t) m.1)
    ]
      where
        not-yet : a ≤ t → false ≡ sooner 0 a e t
        not-yet p = grind (arith, nat_tests)

    all-done : (e t : ℕ) → upto D a e t ≡ inside f a b e t
    all-done e t = elim (cases_lt e D) [
      | inl l ↦ ap (λ c. if c then inside f a b e t else None) (let h : sooner D a e t ≡ true = grind (arith, nat_tests) in h)
      | inr l ↦ (let z = ap (λ v. if (nat_le a t && nat_lt t b) then v else None) (rest e t l) ∙ nothing (nat_le a t && nat_lt t b) in quiet e t (sooner D a e t) z ∙ sym z)
    ]

    docs : (n d : ℕ) → a + n ≡ b → (l : List R) × AreLaid k (upto d a) l
    docs n zero x = ([], record { apart = tt; same = none-yet })
    docs n (suc d) x =
        let (l, p) = docs n d x in
        let (m, q) = times n d l (omega (arith, x)) p in (m, subst (λ i. AreLaid k (upto i a) m) (omega arith) (moved (upto d (a + n)) (upto (d + 1) a) m (next-doc n d x) q))

    some : (l : List R) × AreLaid k (inside f a b) l
    some = elim (cases_lt b a) [
      | inl e ↦ ([], record { apart = tt; same = λ d t. elim (inside-or f a b d t) [ inl i ↦ absurd (omega (arith, e, i.0, i.1)) | inr m ↦ sym m.1 ] })
      | inr l ↦ (let (m, q) = docs (b - a) D (omega (arith, l)) in (m, moved (upto D a) (inside f a b) m all-done q))
    ]

pub each-has : {R V : Type 0} → EachHasStretches R V
each-has k made tell f D a b end rest = let (l, h) = some k made tell f D a b end rest in (l, laid-longest k f a b l h)
