-- How a list is approximated.
use Rattle.std.specs.Prelude.{◌≡◌, ◌⊎◌, ◌↔◌, ℕ, zero, suc, ◌+◌, ◌<◌, ◌≤◌, List, [], ◌∷◌, ◌++◌, length, get_or, drop, Contains, refl}
use Rattle.std.proofs.Common.{arith, ap, sym, ◌∙◌, subst, inl, inr, append_assoc}
use Rattle.std.proofs.lemmas.Bool.{cases_lt, cases_eq}
use Rattle.std.proofs.lemmas.List.{drop_more}
use Rattle.std.proofs.lemmas.List.Elements.{Contains-append_right, Contains-append_cases}
use Rattle.base_types.specs.declared.posting.Posting.{Posting}
use Rattle.lists_postings.specs.Lists.{ComesBefore, IsList, frequency}
use Rattle.lists_postings.proofs.Order.{Heads, next-tail, next-head, next-cons}
use Rattle.lists_postings.proofs.Frequencies.{frequency-of, frequency-here, frequency-skip}
use Rattle.lists_approx.specs.Approximations.{IsNear, IsNearAll}
use Rattle.lists_approx.specs.Steps.{IsIn, IsBegun, IsLonger, IsOver, IsClosed, IsUnderWay}
use Rattle.base_types.specs.declared.tolerance.Tolerance.{Tolerance}
use Rattle.lists_approx.proofs.Near.{near_none, none_near, near_self}
use Rattle.lists_approx.proofs.Places.{replace, front-same, nothing-after}

-- the time is inside the posting of that document, or it isn't
holds_or : (d t : ℕ) (p : Posting) → ((p.doc.0 ≡ d) × (p.span.from ≤ t) × (t < p.span.to)) ⊎ (p.doc.0 ≡ d → p.span.from ≤ t → t < p.span.to → ⊥)
holds_or d t p = elim (cases_eq p.doc.0 d) [
  | inr n ↦ inr (λ a b c. n a)
  | inl a ↦ elim (cases_lt t p.span.from) [
    | inl l ↦ inr (λ x b c. omega (arith, l, b))
    | inr b ↦ elim (cases_lt t p.span.to) [ inl c ↦ inl (a, b, c) | inr k ↦ inr (λ x y c. omega (arith, k, c)) ]
  ]
]

contained : (done : List Posting) (p : Posting) (left : List Posting) → Contains (done ++ p ∷ left) p
contained done p left = Contains-append_right done (p ∷ left) p (zero, omega arith, refl)

-- what one posting of the list says: near all of it is near its frequency
one-to : (tolerance : Tolerance) (list : List Posting) (p : Posting) (d a b r : ℕ) → IsList list → Contains list p → p.doc.0 ≡ d → p.span.from ≡ a → p.span.to ≡ b → IsNearAll tolerance list d a b r → IsNear tolerance r p.tf
one-to tolerance list p d a b r l c e f g h =
    let o : p.span.from < p.span.to = p.span.ordered in
    subst (λ n. IsNear tolerance r n) (frequency-of d a p list l c e (omega (arith, f)) (omega (arith, f))) (h a (omega arith) (omega (arith, f, g)))

one-from : (tolerance : Tolerance) (list : List Posting) (p : Posting) (d a b r : ℕ) → IsList list → Contains list p → p.doc.0 ≡ d → p.span.from ≡ a → p.span.to ≡ b → IsNear tolerance r p.tf → IsNearAll tolerance list d a b r
one-from tolerance list p d a b r l c e f g h t x y = subst (λ n. IsNear tolerance r n) (sym (frequency-of d t p list l c e (omega (arith, f, x)) (omega (arith, g, y)))) h

module _ (tolerance : Tolerance) (list : List Posting) (l : IsList list) where
  -- the first posting begins the first run
  pub step-first : (p : Posting) (rest : List Posting) (run : Posting) (most : ℕ) → list ≡ p ∷ rest → IsBegun tolerance p run most → IsUnderWay tolerance list [] run most rest
  step-first p rest run most e b = record {
    ordered = next-cons ComesBefore run rest (ahead rest (next-head ComesBefore p rest whole)) (next-tail ComesBefore p rest whole);
    near = λ d t. near d t (holds_or d t run);
    some = b.some;
    all = all;
    closed = λ q c. absurd (omega (arith, c.1));
    rest = λ q c. rw e (suc c.0, omega (arith, c.1), c.2);
  }
    where
      whole : IsList (p ∷ rest)
      whole = subst (λ x. IsList x) e l

      here : Contains list p
      here = rw e (zero, omega arith, refl)

      ahead : (left : List Posting) → Heads ComesBefore p left → Heads ComesBefore run left
      ahead [] x = tt
      ahead (r ∷ left) (inl a) = inl (omega (arith, a, b.doc))
      ahead (r ∷ left) (inr a) = inr (b.doc ∙ a.0, omega (arith, a.1, b.to))

      all : (r : ℕ) → IsNearAll tolerance list run.doc.0 run.span.from run.span.to r ↔ IsIn run.tf most r
      all r = (λ k. (b.near r).0 (one-to tolerance list p run.doc.0 run.span.from run.span.to r l here (sym b.doc) (sym b.from) (sym b.to) k), λ k. one-from tolerance list p run.doc.0 run.span.from run.span.to r l here (sym b.doc) (sym b.from) (sym b.to) ((b.near r).1 k))

      near : (d t : ℕ) → ((run.doc.0 ≡ d) × (run.span.from ≤ t) × (t < run.span.to)) ⊎ (run.doc.0 ≡ d → run.span.from ≤ t → t < run.span.to → ⊥) → IsNear tolerance (frequency d t (run ∷ rest)) (frequency d t list)
      near d t (inl (x, y, z)) = subst (λ n. IsNear tolerance n (frequency d t list)) (sym (frequency-here d t run rest x y z)) (subst (λ e. IsNear tolerance run.tf (frequency e t list)) x ((all run.tf).1 (omega arith, b.some) t y z))
      near d t (inr off) =
          let f : frequency d t (run ∷ rest) ≡ frequency d t list = frequency-skip d t run rest off ∙ sym (ap (λ x. frequency d t x) e ∙ frequency-skip d t p rest (λ x y z. off (b.doc ∙ x) (omega (arith, y, b.from)) (omega (arith, z, b.to)))) in
          subst (λ n. IsNear tolerance n (frequency d t list)) (sym f) (near_self tolerance (frequency d t list))

  -- the next posting goes into the run
  pub step-longer : (done : List Posting) (run : Posting) (most : ℕ) (p : Posting) (left : List Posting) (next : Posting) (new : ℕ) → IsLonger tolerance run most p next new → IsUnderWay tolerance list done run most (p ∷ left) → IsUnderWay tolerance list done next new left
  step-longer done run most p left next new n h = record {
    ordered = ordered;
    near = λ d t. near d t (holds_or d t next);
    some = n.some;
    all = all;
    closed = h.closed;
    rest = λ q c. h.rest q (suc c.0, omega (arith, c.1), c.2);
  }
    where
      here : Contains list p
      here = h.rest p (zero, omega arith, refl)

      same : run.doc.0 ≡ next.doc.0
      same = n.touches.doc ∙ sym n.doc

      at : run.span.to ≡ p.span.from
      at = n.touches.at

      before : (r : Posting) → ComesBefore r run → ComesBefore r next
      before r (inl a) = inl (omega (arith, a, same))
      before r (inr a) = inr (a.0 ∙ same, omega (arith, a.1, n.from))

      ahead : (left : List Posting) → Heads ComesBefore p left → Heads ComesBefore next left
      ahead [] x = tt
      ahead (r ∷ left) (inl a) = inl (omega (arith, a, n.doc))
      ahead (r ∷ left) (inr a) = inr (n.doc ∙ a.0, omega (arith, a.1, n.to))

      ordered : IsList (done ++ next ∷ left)
      ordered = replace ComesBefore done run next (p ∷ left) left before (λ k. next-cons ComesBefore next left (ahead left (next-head ComesBefore p left k.1)) (next-tail ComesBefore p left k.1)) h.ordered

      all : (r : ℕ) → IsNearAll tolerance list next.doc.0 next.span.from next.span.to r ↔ IsIn next.tf new r
      all r = (to, from)
        where
          to : IsNearAll tolerance list next.doc.0 next.span.from next.span.to r → IsIn next.tf new r
          to k =
              let po : p.span.from < p.span.to = p.span.ordered in
              let ro : run.span.from < run.span.to = run.span.ordered in
              let a : IsNearAll tolerance list run.doc.0 run.span.from run.span.to r = λ t x y. subst (λ d. IsNear tolerance r (frequency d t list)) (sym same) (k t (omega (arith, x, n.from)) (omega (arith, y, at, n.to))) in
              let b : IsNearAll tolerance list p.doc.0 p.span.from p.span.to r = λ t x y. subst (λ d. IsNear tolerance r (frequency d t list)) n.doc (k t (omega (arith, x, n.from, at)) (omega (arith, y, n.to))) in
              (n.near r).0 ((h.all r).0 a, one-to tolerance list p p.doc.0 p.span.from p.span.to r l here refl refl refl b)

          from : IsIn next.tf new r → IsNearAll tolerance list next.doc.0 next.span.from next.span.to r
          from k t x y =
              let b : IsIn run.tf most r × IsNear tolerance r p.tf = (n.near r).1 k in
              elim (cases_lt t run.span.to) [
                | inl c ↦ subst (λ d. IsNear tolerance r (frequency d t list)) same ((h.all r).1 b.0 t (omega (arith, x, n.from)) c)
                | inr c ↦ subst (λ d. IsNear tolerance r (frequency d t list)) (sym n.doc) (one-from tolerance list p p.doc.0 p.span.from p.span.to r l here refl refl refl b.1 t (omega (arith, c, at)) (omega (arith, y, n.to)))
              ]

      near : (d t : ℕ) → ((next.doc.0 ≡ d) × (next.span.from ≤ t) × (t < next.span.to)) ⊎ (next.doc.0 ≡ d → next.span.from ≤ t → t < next.span.to → ⊥) → IsNear tolerance (frequency d t (done ++ next ∷ left)) (frequency d t list)
      near d t (inl (a, b, c)) = subst (λ n. IsNear tolerance n (frequency d t list)) (sym (frequency-of d t next (done ++ next ∷ left) ordered (contained done next left) a b c)) (subst (λ e. IsNear tolerance next.tf (frequency e t list)) a ((all next.tf).1 (omega arith, n.some) t b c))
      near d t (inr off) =
          let po : p.span.from < p.span.to = p.span.ordered in
          let ro : run.span.from < run.span.to = run.span.ordered in
          let e : frequency d t (next ∷ left) ≡ frequency d t (run ∷ p ∷ left) =
          frequency-skip d t next left off ∙ sym (frequency-skip d t run (p ∷ left) (λ x y z. off (sym same ∙ x) (omega (arith, y, n.from)) (omega (arith, z, at, n.to)))
          ∙ frequency-skip d t p left (λ x y z. off (n.doc ∙ x) (omega (arith, y, n.from, at)) (omega (arith, z, n.to)))) in
          subst (λ n. IsNear tolerance n (frequency d t list)) (sym (front-same d t done (next ∷ left) (run ∷ p ∷ left) e)) (h.near d t)

  -- the next posting can't be put to the run, or there is none
  abbrev pub Stops : Posting → ℕ → List Posting → Type 0
  Stops run most [] = Unit {0}
  Stops run most (p ∷ left) = IsOver tolerance run most p

  -- so the run is closed
  pub close : (done : List Posting) (run : Posting) (most : ℕ) (left : List Posting) → Stops run most left → IsUnderWay tolerance list done run most left → IsClosed tolerance list run
  close done run most left s h = record { least = λ r k. ((h.all r).0 k).0; over = over left s h }
    where
      inside : (left : List Posting) → IsUnderWay tolerance list done run most left → (r : ℕ) → IsNearAll tolerance list run.doc.0 run.span.from (run.span.to + 1) r → IsIn run.tf most r
      inside left h r k = (h.all r).0 (λ t x y. k t x (omega (arith, y)))

      none : (left : List Posting) → IsUnderWay tolerance list done run most left → Heads (λ p q. (p.doc.0 ≡ q.doc.0) → (p.span.to ≡ q.span.from) → ⊥) run left → (r : ℕ) → IsNearAll tolerance list run.doc.0 run.span.from (run.span.to + 1) r → ⊥
      none left h n r k =
          let o : run.span.from < run.span.to = run.span.ordered in
          let z : frequency run.doc.0 run.span.to list ≡ 0 = none_near tolerance (frequency run.doc.0 run.span.to (done ++ run ∷ left)) (frequency run.doc.0 run.span.to list) (h.near run.doc.0 run.span.to) (nothing-after run.doc.0 run.span.to done run left h.ordered refl refl n) in
          let y : r ≡ 0 = near_none tolerance r (frequency run.doc.0 run.span.to list) (k run.span.to (omega arith) (omega arith)) z in
          let i : IsIn run.tf most r = inside left h r k in
          let c : 1 ≤ run.tf = run.counted in
          omega (arith, y, i.0, c)

      over : (left : List Posting) → Stops run most left → IsUnderWay tolerance list done run most left → (r : ℕ) → IsNearAll tolerance list run.doc.0 run.span.from (run.span.to + 1) r → ⊥
      over [] s h r k = none [] h tt r k
      over (p ∷ left) s h r k = none (p ∷ left) h (λ e f. meets e f) r k
        where
          meets : run.doc.0 ≡ p.doc.0 → run.span.to ≡ p.span.from → ⊥
          meets e f =
              let po : p.span.from < p.span.to = p.span.ordered in
              let here : Contains list p = h.rest p (zero, omega arith, refl) in
              s (record { doc = e; at = f }) r (inside (p ∷ left) h r k)
              (subst (λ n. IsNear tolerance r n) (frequency-of run.doc.0 run.span.to p list l here (sym e) (omega (arith, f)) (omega (arith, f))) (k run.span.to (let o : run.span.from < run.span.to = run.span.ordered in omega (arith, o)) (omega arith)))

  -- the run is done, and the next posting begins a new one
  pub step-close : (done new : List Posting) (run : Posting) (most : ℕ) (p : Posting) (left : List Posting) (next : Posting) (nm : ℕ) → new ≡ done ++ run ∷ [] → IsOver tolerance run most p → IsBegun tolerance p next nm
      → IsUnderWay tolerance list done run most (p ∷ left) → IsUnderWay tolerance list new next nm left
  step-close done new run most p left next nm e s b h = rw e (record {
    ordered = ordered;
    near = λ d t. near d t (holds_or d t next);
    some = b.some;
    all = all;
    closed = λ q c. closed q (Contains-append_cases done (run ∷ []) q c);
    rest = λ q c. h.rest q (suc c.0, omega (arith, c.1), c.2);
  })
    where
      here : Contains list p
      here = h.rest p (zero, omega arith, refl)

      ahead : (left : List Posting) → Heads ComesBefore p left → Heads ComesBefore next left
      ahead [] x = tt
      ahead (r ∷ left) (inl a) = inl (omega (arith, a, b.doc))
      ahead (r ∷ left) (inr a) = inr (b.doc ∙ a.0, omega (arith, a.1, b.to))

      before : (r : Posting) → ComesBefore r p → ComesBefore r next
      before r (inl a) = inl (omega (arith, a, b.doc))
      before r (inr a) = inr (a.0 ∙ sym b.doc, omega (arith, a.1, b.from))

      split : IsList ((done ++ run ∷ []) ++ p ∷ left)
      split = rw append_assoc h.ordered

      ordered : IsList ((done ++ run ∷ []) ++ next ∷ left)
      ordered = replace ComesBefore (done ++ run ∷ []) p next left left before (λ k. next-cons ComesBefore next left (ahead left (next-head ComesBefore p left k)) (next-tail ComesBefore p left k)) split

      all : (r : ℕ) → IsNearAll tolerance list next.doc.0 next.span.from next.span.to r ↔ IsIn next.tf nm r
      all r = (λ k. (b.near r).0 (one-to tolerance list p next.doc.0 next.span.from next.span.to r l here (sym b.doc) (sym b.from) (sym b.to) k), λ k. one-from tolerance list p next.doc.0 next.span.from next.span.to r l here (sym b.doc) (sym b.from) (sym b.to) ((b.near r).1 k))

      near : (d t : ℕ) → ((next.doc.0 ≡ d) × (next.span.from ≤ t) × (t < next.span.to)) ⊎ (next.doc.0 ≡ d → next.span.from ≤ t → t < next.span.to → ⊥) → IsNear tolerance (frequency d t ((done ++ run ∷ []) ++ next ∷ left)) (frequency d t list)
      near d t (inl (x, y, z)) = subst (λ n. IsNear tolerance n (frequency d t list)) (sym (frequency-of d t next ((done ++ run ∷ []) ++ next ∷ left) ordered (contained (done ++ run ∷ []) next left) x y z)) (subst (λ e. IsNear tolerance next.tf (frequency e t list)) x ((all next.tf).1 (omega arith, b.some) t y z))
      near d t (inr off) =
          let e : frequency d t (next ∷ left) ≡ frequency d t (p ∷ left) = frequency-skip d t next left off ∙ sym (frequency-skip d t p left (λ x y z. off (b.doc ∙ x) (omega (arith, y, b.from)) (omega (arith, z, b.to)))) in
          let f : frequency d t ((done ++ run ∷ []) ++ p ∷ left) ≡ frequency d t (done ++ run ∷ p ∷ left) = ap (λ x. frequency d t x) (append_assoc done (run ∷ []) (p ∷ left)) in
          subst (λ n. IsNear tolerance n (frequency d t list)) (sym (front-same d t (done ++ run ∷ []) (next ∷ left) (p ∷ left) e ∙ f)) (h.near d t)

      closed : (q : Posting) → (Contains done q ⊎ Contains (run ∷ []) q) → IsClosed tolerance list q
      closed q (inl c) = h.closed q c
      closed q (inr (k, m, f)) = let z : k ≡ 0 = omega (arith, m) in subst (λ x. IsClosed tolerance list x) (subst (λ i. get_or (run ∷ []) i q ≡ q) z f) (close done run most (p ∷ left) s h)

-- what is left begins with the next posting
pub next-left : (tolerance : Tolerance) (list done others : List Posting) (run p : Posting) (most i : ℕ) → i < length others → p ≡ get_or others i p → IsUnderWay tolerance list done run most (drop i others) → IsUnderWay tolerance list done run most (p ∷ drop (i + 1) others)
next-left tolerance list done others run p most i l e h =
    let s : drop i others ≡ p ∷ drop (i + 1) others = drop_more others i p l ∙ ap (λ x. x ∷ drop (i + 1) others) (sym e) in
    subst (λ x. IsUnderWay tolerance list done run most x) s h
