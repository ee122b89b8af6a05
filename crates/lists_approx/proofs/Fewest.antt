-- Of closed postings there are fewest, and they end as late as any.
use Rattle.std.specs.Prelude.{◌≡◌, ◌⊎◌, ℕ, zero, suc, ◌+◌, ◌<◌, ◌≤◌, List, [], ◌∷◌, ◌++◌, length, get_or, drop, Contains, refl}
use Rattle.std.proofs.Common.{arith, sym, ◌∙◌, subst, inl, inr}
use Rattle.std.proofs.lemmas.Bool.{cases_lt, cases_order}
use Rattle.std.proofs.lemmas.List.{drop_all}
use Rattle.std.proofs.lemmas.List.Elements.{Contains-append_cases}
use Rattle.base_types.specs.declared.posting.Posting.{Posting}
use Rattle.lists_postings.specs.Lists.{ComesBefore, IsList, frequency}
use Rattle.lists_postings.proofs.Order.{next-tail, next-later, before-trans}
use Rattle.lists_postings.proofs.Frequencies.{frequency-of, found}
use Rattle.lists_approx.specs.Approximations.{IsNear, Approximates, IsLongestFirst, IsFewest}
use Rattle.lists_approx.specs.Steps.{IsClosed, IsUnderWay}
use Rattle.base_types.specs.declared.tolerance.Tolerance.{Tolerance}
use Rattle.lists_approx.proofs.Near.{near_none, none_near}
use Rattle.lists_approx.proofs.Runs.{close}

-- q ends inside p or where p ends
pub record EndsIn (p q : Posting) : Type 0 where
  pub doc : p.doc.0 ≡ q.doc.0
  pub after : p.span.from < q.span.to
  pub most : q.span.to ≤ p.span.to

-- each posting of the one list has one of the other that ends in it
abbrev pub EachHasAnEnd : List Posting → List Posting → Type 0
EachHasAnEnd list other = (p : Posting) → Contains list p → (q : Posting) × Contains other q × EndsIn p q

-- q stands after the end of p, in the order of document and end
abbrev IsPast : Posting → Posting → Type 0
IsPast p q = (p.doc.0 < q.doc.0) ⊎ ((p.doc.0 ≡ q.doc.0) × (p.span.to < q.span.to))

past_or : (p q : Posting) → IsPast p q ⊎ (IsPast p q → ⊥)
past_or p q = elim (cases_order p.doc.0 q.doc.0) [
  | inl e ↦ elim (cases_lt p.span.to q.span.to) [ inl k ↦ inl (inr (e, k)) | inr k ↦ inr (λ x. elim x [ inl a ↦ omega (arith, a, e) | inr a ↦ omega (arith, a.1, k) ]) ]
  | inr o ↦ elim o [ inl a ↦ inl (inl a) | inr a ↦ inr (λ x. elim x [ inl b ↦ omega (arith, a, b) | inr b ↦ omega (arith, a, b.0) ]) ]
]

behind : {X : Type 0} (x y : X) (xs : List X) → Contains (x ∷ xs) y → (x ≡ y) ⊎ Contains xs y
behind x y xs (zero, l, e) = inl e
behind x y xs (suc k, l, e) = inr (k, omega (arith, l), e)

-- so there are as many of the other
pub ends-count : (list other : List Posting) → IsList list → IsList other → EachHasAnEnd list other → length list ≤ length other
ends-count [] other l lo h = omega arith
ends-count (p ∷ list) [] l lo h = let e : (q : Posting) × Contains [] q × EndsIn p q = h p (zero, omega arith, refl) in absurd (omega (arith, e.1.1))
ends-count (p ∷ list) (q ∷ other) l lo h = go (past_or p q) (λ e. ends-count list other (next-tail ComesBefore p list l) (next-tail ComesBefore q other lo) e)
  where
    go : IsPast p q ⊎ (IsPast p q → ⊥) → (EachHasAnEnd list other → length list ≤ length other) → suc (length list) ≤ suc (length other)
    go (inl x) less = let (s, c, e) = h p (zero, omega arith, refl) in elim (behind q s other c) [
      | inl f ↦ absurd (never x (subst (λ y. EndsIn p y) (sym f) e))
      | inr k ↦ absurd (worse x (next-later ComesBefore before-trans q s other lo k) s.span.ordered q.span.ordered e)
    ]
      where
        never : IsPast p q → EndsIn p q → ⊥
        never (inl a) e = omega (arith, a, e.doc)
        never (inr a) e = omega (arith, a.1, e.most)

        worse : {s : Posting} → IsPast p q → ComesBefore q s → s.span.from < s.span.to → q.span.from < q.span.to → EndsIn p s → ⊥
        worse (inl a) (inl b) o u e = omega (arith, a, b, e.doc)
        worse (inl a) (inr b) o u e = omega (arith, a, b.0, e.doc)
        worse (inr a) (inl b) o u e = omega (arith, a.0, b, e.doc)
        worse (inr a) (inr b) o u e = omega (arith, a.1, b.1, o, e.most)
    go (inr x) less = let k : length list ≤ length other = less rest in omega (arith, k)
      where
        rest : EachHasAnEnd list other
        rest r c = let (s, d, e) = h r (suc c.0, omega (arith, c.1), c.2) in elim (behind q s other d) [
          | inr k ↦ (s, k, e)
          | inl f ↦ absurd (x (past (next-later ComesBefore before-trans p r list l c) (subst (λ y. EndsIn r y) (sym f) e)))
        ]
          where
            past : ComesBefore p r → EndsIn r q → IsPast p q
            past (inl a) e = inl (omega (arith, a, e.doc))
            past (inr a) e = inr (a.0 ∙ e.doc, omega (arith, a.1, e.after))

module _ (tolerance : Tolerance) (list : List Posting) where
  -- a posting that begins no later than a closed one and holds its start ends no later
  no-later : (other : List Posting) (p q : Posting) → IsList other → Approximates tolerance other list → Contains other q → IsClosed tolerance list p → q.doc.0 ≡ p.doc.0 → q.span.from ≤ p.span.from → q.span.to ≤ p.span.to
  no-later other p q lo n c h e f = elim (cases_lt p.span.to q.span.to) [ inr k ↦ k | inl k ↦ absurd (h.over q.tf (λ t x y. near k t x y)) ]
    where
      near : p.span.to < q.span.to → (t : ℕ) → p.span.from ≤ t → t < p.span.to + 1 → IsNear tolerance q.tf (frequency p.doc.0 t list)
      near k t x y = subst (λ m. IsNear tolerance m (frequency p.doc.0 t list)) (frequency-of p.doc.0 t q other lo c e (omega (arith, f, x)) (omega (arith, k, y))) (n p.doc.0 t)

  -- each closed posting of an approximation has an end of any other in it
  has-an-end : (short other : List Posting) → IsList short → Approximates tolerance short list → ((p : Posting) → Contains short p → IsClosed tolerance list p) → IsList other → Approximates tolerance other list → EachHasAnEnd short other
  has-an-end short other l n c lo no-ne p k =
      let o : p.span.from < p.span.to = p.span.ordered in
      let a : frequency p.doc.0 p.span.from short ≡ p.tf = frequency-of p.doc.0 p.span.from p short l k refl (omega arith) o in
      let z : frequency p.doc.0 p.span.from other ≡ 0 → ⊥ = λ e. omega (arith, a, p.counted, near_none tolerance (frequency p.doc.0 p.span.from short) (frequency p.doc.0 p.span.from list) (n p.doc.0 p.span.from) (none_near tolerance (frequency p.doc.0 p.span.from other) (frequency p.doc.0 p.span.from list) (no-ne p.doc.0 p.span.from) e)) in
      let (q, m, d, b, e, f) = found p.doc.0 p.span.from other (positive (frequency p.doc.0 p.span.from other) z) in
      (q, m, record { doc = sym d; after = e; most = no-later other p q lo no-ne m (c p k) d b })
    where
      positive : (n : ℕ) → (n ≡ 0 → ⊥) → 0 < n
      positive zero h = absurd (h refl)
      positive (suc n) h = omega arith

  pub longest-first : (short : List Posting) → IsList short → Approximates tolerance short list → ((p : Posting) → Contains short p → IsClosed tolerance list p) → IsLongestFirst tolerance list short
  longest-first short l n c = record {
    ordered = l;
    near = n;
    longest = λ other p q lo a k m e f. no-later other p q lo a m (c p k) e (omega (arith, f));
    least = λ p r k m. (c p k).least r m;
  }

  pub fewest : (short : List Posting) → IsList short → Approximates tolerance short list → ((p : Posting) → Contains short p → IsClosed tolerance list p) → IsFewest tolerance list short
  fewest short l n c other lo a = ends-count short other l lo (has-an-end short other l n c lo a)

  -- nothing is left, and the last run is done
  pub finished : (done new others : List Posting) (run : Posting) (most i : ℕ) → IsList list → length others ≤ i → new ≡ done ++ run ∷ [] → IsUnderWay tolerance list done run most (drop i others)
      → IsList new × Approximates tolerance new list × ((p : Posting) → Contains new p → IsClosed tolerance list p)
  finished done new others run most i il m e h = rw e (k.ordered, k.near, λ p c. closed p (Contains-append_cases done (run ∷ []) p c))
    where
      k : IsUnderWay tolerance list done run most []
      k = subst (λ x. IsUnderWay tolerance list done run most x) (drop_all i others m) h

      closed : (p : Posting) → (Contains done p ⊎ Contains (run ∷ []) p) → IsClosed tolerance list p
      closed p (inl c) = k.closed p c
      closed p (inr (j, u, f)) = let z : j ≡ 0 = omega (arith, u) in subst (λ x. IsClosed tolerance list x) (subst (λ i. get_or (run ∷ []) i p ≡ p) z f) (close tolerance list il done run most [] tt k)
