-- Pieces between events, one after the other.
use Rattle.std.specs.Prelude.{◌≡◌, ◌⊎◌, ℕ, zero, suc, ◌+◌, ◌<◌, ◌≤◌, ◌==◌, ◌&&◌, Bool, true, false, if◌then◌else◌, nat_le, nat_lt, List, [], ◌∷◌, ◌++◌, length, take, drop, get_or, Contains, Option, Some, None, refl}
use Rattle.std.proofs.Common.{arith, ap, sym, ◌∙◌, subst, inl, inr}
use Rattle.std.proofs.lemmas.Bool.{cases_eq, cases_lt, eq-eqb}
use Rattle.std.proofs.lemmas.Bool.Decides.{nat_tests}
use Rattle.std.proofs.lemmas.List.{drop_all, drop_more, take-append-drop}
use Rattle.lists_postings.proofs.Order.{next-tail, next-later}
use Rattle.lists_postings.specs.Stretches.{Kind}
use Rattle.lists_postings.specs.Laid.{holds, with_row, AreLaid, IsBehind}
use Rattle.lists_postings.specs.Events.{NotAfter, AreInOrder, ChangesAt, is_done, inside, done, end_of}
use Rattle.lists_postings.specs.declared.event.Event.{Event}
use Rattle.lists_postings.proofs.Elements.{here, later, here-or-later, none}
use Rattle.lists_postings.proofs.Laid.{tests_hold, hold_tests}

order-trans : (x y z : Event) → NotAfter x y → NotAfter y z → NotAfter x z
order-trans x y z p q = grind arith

same-place : (x y : Event) → x ≡ y → NotAfter x y
same-place x y e = inr (ap (λ z. z.doc.0) e, (let t : x.at.seconds ≡ y.at.seconds = ap (λ z. z.at.seconds) e in omega (arith, t)))

-- the first of these isn't after z
abbrev Follows : List Event → Event → Type 0
Follows [] z = ⊥
Follows (y ∷ rest) z = NotAfter y z

follow : (rest : List Event) (z : Event) → AreInOrder rest → Contains rest z → Follows rest z
follow [] z o c = absurd (none z c)
follow (y ∷ rest) z o c = elim (here-or-later y z rest c) [ inl e ↦ same-place y z e | inr m ↦ next-later NotAfter order-trans y z rest o m ]

in-rest : (front : List Event) (e : Event) (rest : List Event) (z : Event) → Contains rest z → Contains (front ++ e ∷ rest) z
in-rest [] e rest z c = later e z rest c
in-rest (x ∷ front) e rest z c = later x z (front ++ e ∷ rest) (in-rest front e rest z c)

in-middle : (front : List Event) (e : Event) (rest : List Event) → Contains (front ++ e ∷ rest) e
in-middle [] e rest = here e rest
in-middle (x ∷ front) e rest = later x e (front ++ e ∷ rest) (in-middle front e rest)

-- an event isn't after e, or what comes next isn't after it
either : (front : List Event) (e : Event) (rest : List Event) (z : Event) → AreInOrder (front ++ e ∷ rest) → Contains (front ++ e ∷ rest) z → NotAfter z e ⊎ Follows rest z
either [] e rest z o c = elim (here-or-later e z rest c) [ inl i ↦ inl (same-place z e (sym i)) | inr m ↦ inr (follow rest z (next-tail NotAfter e rest o) m) ]
either (x ∷ front) e rest z o c = elim (here-or-later x z (front ++ e ∷ rest) c) [
  | inl i ↦ inl (subst (λ w. NotAfter w e) i (next-later NotAfter order-trans x e (front ++ e ∷ rest) o (in-middle front e rest)))
  | inr m ↦ either front e rest z (next-tail NotAfter x (front ++ e ∷ rest) o) m
]

pub nothing : {V : Type 0} (c : Bool) → (if c then None else None) ≡ (let n : Option V = None in n)
nothing true = refl
nothing false = refl

module _ {V : Type 0} (f : ℕ → ℕ → Option V) (a b : ℕ) where
  -- a time is inside, where f counts, or it doesn't
  pub inside-or : (d t : ℕ) → ((a ≤ t) × (t < b) × (inside f a b d t ≡ f d t)) ⊎ (((a ≤ t) × (t < b) → ⊥) × (inside f a b d t ≡ None))
  inside-or d t = go (nat_le a t && nat_lt t b) refl
    where
      yes : nat_le a t && nat_lt t b ≡ true → (a ≤ t) × (t < b)
      yes h = (grind (arith, nat_tests), grind (arith, nat_tests))

      out : nat_le a t && nat_lt t b ≡ false → (a ≤ t) × (t < b) → ⊥
      out h p = let x = p.0 in let y = p.1 in grind (arith, nat_tests)

      go : (c : Bool) → nat_le a t && nat_lt t b ≡ c → ((a ≤ t) × (t < b) × ((if c then f d t else None) ≡ f d t)) ⊎ (((a ≤ t) × (t < b) → ⊥) × ((if c then f d t else None) ≡ None))
      go true h = inl ((yes h).0, (yes h).1, refl)
      go false h = inr (out h, refl)

-- the time lies in the piece that begins at e
abbrev InPiece : Event → ℕ → ℕ → ℕ → Type 0
InPiece e end d t = (e.doc.0 ≡ d) × (e.at.seconds ≤ t) × (t < end)

-- where a time lies: before the event, in its piece, or behind that
data Lies {V : Type 0} (f : ℕ → ℕ → Option V) (b : ℕ) (e : Event) (rest : List Event) (d t : ℕ) : Type 0 where
  Sooner : is_done (e ∷ rest) d t ≡ true → is_done rest d t ≡ true → (InPiece e (end_of e rest b) d t → ⊥) → Lies f b e rest d t
  Within : is_done (e ∷ rest) d t ≡ false → is_done rest d t ≡ true → InPiece e (end_of e rest b) d t → f d e.at.seconds ≡ f d t → Lies f b e rest d t
  Later : is_done (e ∷ rest) d t ≡ false → is_done rest d t ≡ false → (InPiece e (end_of e rest b) d t → ⊥) → Lies f b e rest d t
  Nowhere : is_done (e ∷ rest) d t ≡ false → (InPiece e (end_of e rest b) d t → ⊥) → f d t ≡ None → Lies f b e rest d t

abbrev Earlier : Event → ℕ → ℕ → Type 0
Earlier y d t = (d < y.doc.0) ⊎ ((d ≡ y.doc.0) × (t < y.at.seconds))

abbrev NotEarlier : Event → ℕ → ℕ → Type 0
NotEarlier y d t = (y.doc.0 < d) ⊎ ((d ≡ y.doc.0) × (y.at.seconds ≤ t))

place : (y : Event) (d t : ℕ) → Earlier y d t ⊎ NotEarlier y d t
place y d t = elim (cases_lt d y.doc.0) [
  | inl l ↦ inl (inl l)
  | inr l ↦ elim (cases_lt y.doc.0 d) [
    | inl m ↦ inr (inl m)
    | inr m ↦ elim (cases_lt t y.at.seconds) [ inl n ↦ inl (inr (omega (arith, l, m), n)) | inr n ↦ inr (inr (omega (arith, l, m), omega (arith, n))) ]
  ]
]

done-yes : (y : Event) (events : List Event) (d t : ℕ) → Earlier y d t → is_done (y ∷ events) d t ≡ true
done-yes y events d t (inl l) = grind (arith, nat_tests)
done-yes y events d t (inr l) = let p = l.0 in let q = l.1 in grind (arith, nat_tests)

done-no : (y : Event) (events : List Event) (d t : ℕ) → NotEarlier y d t → is_done (y ∷ events) d t ≡ false
done-no y events d t (inl l) = grind (arith, nat_tests)
done-no y events d t (inr l) = let p = l.0 in let q = l.1 in grind (arith, nat_tests)

-- what isn't before the next event isn't done
past : (d t : ℕ) (rest : List Event) (z : Event) → is_done rest d t ≡ true → Follows rest z → z.doc.0 ≡ d → z.at.seconds ≤ t → ⊥
past d t [] z h n i l = n
past d t (y ∷ rest) z h n i l = elim (place y d t) [
  | inl p ↦ go p n
  | inr p ↦ (let no = done-no y rest d t p in absurd cc)
]
  where
    go : Earlier y d t → NotAfter y z → ⊥
    go (inl p) (inl n) = omega (arith, p, n, i)
    go (inl p) (inr n) = omega (arith, p, n.0, i)
    go (inr p) (inl n) = omega (arith, p.0, n, i)
    go (inr p) (inr n) = omega (arith, p.1, n.1, l)

end-same : (e y : Event) (events : List Event) (b : ℕ) → e.doc.0 ≡ y.doc.0 → end_of e (y ∷ events) b ≡ y.at.seconds
end-same e y events b h = ap (λ c. if c then y.at.seconds else b) (eq-eqb _ _ h)

end-other : (e y : Event) (events : List Event) (b : ℕ) → (e.doc.0 ≡ y.doc.0 → ⊥) → end_of e (y ∷ events) b ≡ b
end-other e y events b n = ap (λ c. if c then y.at.seconds else b) (let no : e.doc.0 == y.doc.0 ≡ false = grind (arith, nat_tests) in no)

module _ {V : Type 0} (f : ℕ → ℕ → Option V) (a b : ℕ) (front : List Event) (e : Event) (rest : List Event) (o : AreInOrder (front ++ e ∷ rest)) (c : ChangesAt (front ++ e ∷ rest) a b f) where
  since : a ≤ e.at.seconds
  since = (c.inside e (in-middle front e rest)).0

  order-left : (front : List Event) → AreInOrder (front ++ e ∷ rest) → AreInOrder (e ∷ rest)
  order-left [] o = o
  order-left (x ∷ front) o = order-left front (next-tail NotAfter x (front ++ e ∷ rest) o)

  -- what of the document isn't after t, where t lies before what comes next
  up-to : (d t : ℕ) (z : Event) → is_done rest d t ≡ true → Contains (front ++ e ∷ rest) z → z.doc.0 ≡ d → z.at.seconds ≤ t → NotAfter z e
  up-to d t z h m i l = elim (either front e rest z o m) [ inl n ↦ n | inr n ↦ absurd (past d t rest z h n i l) ]

  -- in the piece nothing changes
  still-there : (d t : ℕ) → t < b → is_done rest d t ≡ true → d ≡ e.doc.0 → e.at.seconds ≤ t → f d e.at.seconds ≡ f d t
  still-there d t y h i l = c.still d e.at.seconds t since l y (λ z m j lo hi. elim (up-to d t z h m j hi) [ inl n ↦ omega (arith, n, i, j) | inr n ↦ omega (arith, n.1, lo) ])

  -- behind the document, and before the next one, nothing is said
  nothing-there : (d t : ℕ) → a ≤ t → t < b → is_done rest d t ≡ true → e.doc.0 < d → f d t ≡ None
  nothing-there d t x y h i = c.none d t x y (λ z m j hi. elim (up-to d t z h m j hi) [ inl n ↦ omega (arith, n, i, j) | inr n ↦ omega (arith, n.0, i, j) ])

  lies : (d t : ℕ) → a ≤ t → t < b → Lies f b e rest d t
  lies d t x y = elim (place e d t) [
    | inl p ↦ Sooner (done-yes e rest d t p) (before rest (order-left front o) p) (λ q. outside p q)
    | inr p ↦ behind rest p (order-left front o) (still-there d t y) (nothing-there d t x y)
  ]
    where
      before : (rest : List Event) → AreInOrder (e ∷ rest) → Earlier e d t → is_done rest d t ≡ true
      before [] o p = refl
      before (z ∷ rest) o p = done-yes z rest d t (ahead p o.0)
        where
          ahead : Earlier e d t → NotAfter e z → Earlier z d t
          ahead p n = grind arith

      outside : Earlier e d t → InPiece e (end_of e rest b) d t → ⊥
      outside (inl p) q = omega (arith, p, q.0)
      outside (inr p) q = omega (arith, p.1, q.1)

      behind : (rest : List Event) → NotEarlier e d t → AreInOrder (e ∷ rest) → (is_done rest d t ≡ true → d ≡ e.doc.0 → e.at.seconds ≤ t → f d e.at.seconds ≡ f d t) → (is_done rest d t ≡ true → e.doc.0 < d → f d t ≡ None) → Lies f b e rest d t
      behind [] (inl p) o s n = Nowhere (done-no e [] d t (inl p)) (λ q. omega (arith, p, q.0)) (n refl p)
      behind [] (inr p) o s n = Within (done-no e [] d t (inr p)) refl (sym p.0, p.1, y) (s refl p.0 p.1)
      behind (z ∷ rest) p o s n = elim (place z d t) [
        | inl m ↦ (let h = done-yes z rest d t m in elim p [
          | inl p ↦ Nowhere (done-no e (z ∷ rest) d t (inl p)) (λ q. omega (arith, p, q.0)) (n h p)
          | inr p ↦ Within (done-no e (z ∷ rest) d t (inr p)) h (sym p.0, p.1, ends z rest m p.0) (s h p.0 p.1)
        ])
        | inr m ↦ Later (done-no e (z ∷ rest) d t p) (done-no z rest d t m) (λ q. over z rest m o.0 q)
      ]
        where
          ends : (z : Event) (rest : List Event) → Earlier z d t → d ≡ e.doc.0 → t < end_of e (z ∷ rest) b
          ends z rest (inl m) i = omega (arith, y, end-other e z rest b (λ j. omega (arith, m, i, j)))
          ends z rest (inr m) i = omega (arith, m.1, end-same e z rest b (sym i ∙ m.0))

          over : (z : Event) (rest : List Event) → NotEarlier z d t → NotAfter e z → InPiece e (end_of e (z ∷ rest) b) d t → ⊥
          over z rest (inl m) (inl w) q = omega (arith, m, w, q.0)
          over z rest (inl m) (inr w) q = omega (arith, m, w.0, q.0)
          over z rest (inr m) w q = omega (arith, m.1, q.2, end-same e z rest b (q.0 ∙ m.0))

end-most : (e : Event) (rest : List Event) (b : ℕ) → ((z : Event) → Contains rest z → z.at.seconds < b) → end_of e rest b ≤ b
end-most e [] b h = omega arith
end-most e (y ∷ rest) b h = elim (cases_eq e.doc.0 y.doc.0) [ inl i ↦ omega (arith, end-same e y rest b i, h y (here y rest)) | inr n ↦ omega (arith, end-other e y rest b n) ]

module _ {V : Type 0} (f : ℕ → ℕ → Option V) (a b : ℕ) where
  done-inside : (left : List Event) (d t : ℕ) → is_done left d t ≡ true → done f a b left d t ≡ inside f a b d t
  done-inside left d t h = ap (λ c. if c then inside f a b d t else None) h

  done-none : (left : List Event) (d t : ℕ) → is_done left d t ≡ false → done f a b left d t ≡ None
  done-none left d t h = ap (λ c. if c then inside f a b d t else None) h

  done-silent : (left : List Event) (d t : ℕ) → inside f a b d t ≡ None → done f a b left d t ≡ None
  done-silent left d t h = ap (λ v. if is_done left d t then v else None) h ∙ nothing (is_done left d t)

  -- before the first event nothing is said
  pub begin : {R : Type 0} (k : Kind R V) (events : List Event) → AreInOrder events → ChangesAt events a b f → AreLaid k (done f a b events) []
  begin k events o c = record { apart = tt; same = λ d t. sym (go d t (inside-or f a b d t) (is_done events d t) refl) }
    where
      go : (d t : ℕ) → ((a ≤ t) × (t < b) × (inside f a b d t ≡ f d t)) ⊎ (((a ≤ t) × (t < b) → ⊥) × (inside f a b d t ≡ None)) → (q : Bool) → is_done events d t ≡ q → done f a b events d t ≡ None
      go d t (inr n) q h = done-silent events d t n.1
      go d t (inl i) false h = done-none events d t h
      go d t (inl i) true h = done-silent events d t (i.2 ∙ c.none d t i.0 i.1 (λ z m j l. past d t events z h (follow events z o m) j l))

  module _ (front : List Event) (e : Event) (rest : List Event) (o : AreInOrder (front ++ e ∷ rest)) (c : ChangesAt (front ++ e ∷ rest) a b f) where
    -- a piece in which nothing is said
    silent : (end_of e rest b ≤ e.at.seconds) ⊎ (f e.doc.0 e.at.seconds ≡ None) → (d t : ℕ) → done f a b (e ∷ rest) d t ≡ done f a b rest d t
    silent h d t = elim (inside-or f a b d t) [
      | inr n ↦ done-silent (e ∷ rest) d t n.1 ∙ sym (done-silent rest d t n.1)
      | inl i ↦ go i.2 (lies f a b front e rest o c d t i.0 i.1)
    ]
      where
        none-at : InPiece e (end_of e rest b) d t → (end_of e rest b ≤ e.at.seconds) ⊎ (f e.doc.0 e.at.seconds ≡ None) → f d e.at.seconds ≡ None
        none-at p (inl l) = absurd (omega (arith, p.1, p.2, l))
        none-at p (inr q) = ap (λ w. f w e.at.seconds) (sym p.0) ∙ q

        go : inside f a b d t ≡ f d t → Lies f b e rest d t → done f a b (e ∷ rest) d t ≡ done f a b rest d t
        go i (Sooner x y n) = done-inside (e ∷ rest) d t x ∙ sym (done-inside rest d t y)
        go i (Within x y p s) = done-none (e ∷ rest) d t x ∙ sym (done-silent rest d t (i ∙ sym s ∙ none-at p h))
        go i (Later x y n) = done-none (e ∷ rest) d t x ∙ sym (done-none rest d t y)
        go i (Nowhere x n z) = done-none (e ∷ rest) d t x ∙ sym (done-silent rest d t (i ∙ z))

    -- a piece in which something is said
    module _ {R : Type 0} (k : Kind R V) (r : R) (doc : k.doc r ≡ e.doc.0) (from : k.from r ≡ e.at.seconds) (to : k.to r ≡ end_of e rest b) where
      told : f e.doc.0 e.at.seconds ≡ Some (k.value r) → (d t : ℕ) → with_row k (done f a b (e ∷ rest)) r d t ≡ done f a b rest d t
      told h d t = elim (inside-or f a b d t) [
        | inr n ↦ without (λ p. n.0 (out p)) ∙ done-silent (e ∷ rest) d t n.1 ∙ sym (done-silent rest d t n.1)
        | inl i ↦ go i.2 (lies f a b front e rest o c d t i.0 i.1)
      ]
        where
          out : InPiece e (end_of e rest b) d t → (a ≤ t) × (t < b)
          out p = (omega (arith, p.1, (c.inside e (in-middle front e rest)).0), omega (arith, p.2, end-most e rest b (λ z m. (c.inside z (in-rest front e rest z m)).1)))

          held : (q : Bool) → holds k d t r ≡ q → (InPiece e (end_of e rest b) d t → ⊥) → q ≡ false
          held false x n = refl
          held true x n = let (i, l, m) = tests_hold d (k.doc r) (k.from r) t (k.to r) x in absurd (n (sym doc ∙ i, omega (arith, l, from), omega (arith, m, to)))

          without : (InPiece e (end_of e rest b) d t → ⊥) → with_row k (done f a b (e ∷ rest)) r d t ≡ done f a b (e ∷ rest) d t
          without n = ap (λ q. if q then Some (k.value r) else done f a b (e ∷ rest) d t) (held (holds k d t r) refl n)

          with : InPiece e (end_of e rest b) d t → with_row k (done f a b (e ∷ rest)) r d t ≡ Some (k.value r)
          with p = ap (λ q. if q then Some (k.value r) else done f a b (e ∷ rest) d t) (hold_tests d (k.doc r) (k.from r) t (k.to r) (doc ∙ p.0) (omega (arith, p.1, from)) (omega (arith, p.2, to)))

          go : inside f a b d t ≡ f d t → Lies f b e rest d t → with_row k (done f a b (e ∷ rest)) r d t ≡ done f a b rest d t
          go i (Sooner x y n) = without n ∙ done-inside (e ∷ rest) d t x ∙ sym (done-inside rest d t y)
          go i (Within x y p s) = with p ∙ sym h ∙ ap (λ w. f w e.at.seconds) p.0 ∙ s ∙ sym i ∙ sym (done-inside rest d t y)
          go i (Later x y n) = without n ∙ done-none (e ∷ rest) d t x ∙ sym (done-none rest d t y)
          go i (Nowhere x n z) = without n ∙ done-none (e ∷ rest) d t x ∙ sym (done-silent rest d t (i ∙ z))

      behind-it : IsBehind k (done f a b (e ∷ rest)) r
      behind-it d t (inl l) = done-none (e ∷ rest) d t (done-no e rest d t (inl (omega (arith, l, doc))))
      behind-it d t (inr l) = done-none (e ∷ rest) d t (done-no e rest d t (inr (l.0 ∙ doc, omega (arith, l.1, from))))

  -- the event at a place, and those behind it
  module _ (events : List Event) (o : AreInOrder events) (c : ChangesAt events a b f) (i : ℕ) (e : Event) (l : i < length events) (is : e ≡ get_or events i e) where
    left : drop i events ≡ e ∷ drop (i + 1) events
    left = drop_more events i e l ∙ ap (λ x. x ∷ drop (i + 1) events) (sym is)

    whole : events ≡ take i events ++ e ∷ drop (i + 1) events
    whole = sym (take-append-drop i events) ∙ ap (λ x. take i events ++ x) left

    pub next-silent : {R : Type 0} (k : Kind R V) (rows : List R) → (end_of e (drop (i + 1) events) b ≤ e.at.seconds) ⊎ (f e.doc.0 e.at.seconds ≡ None) → AreLaid k (done f a b (drop i events)) rows → AreLaid k (done f a b (drop (i + 1) events)) rows
    next-silent k rows h p = record {
      apart = p.apart;
      same = λ d t. p.same d t ∙ ap (λ x. done f a b x d t) left ∙ silent (take i events) e (drop (i + 1) events) (subst AreInOrder whole o) (subst (λ x. ChangesAt x a b f) whole c) h d t;
    }

    module _ {R : Type 0} (k : Kind R V) (r : R) (doc : k.doc r ≡ e.doc.0) (from : k.from r ≡ e.at.seconds) (to : k.to r ≡ end_of e (drop (i + 1) events) b) where
      next-behind : IsBehind k (done f a b (drop i events)) r
      next-behind = subst (λ x. IsBehind k (done f a b x) r) (sym left) (behind-it (take i events) e (drop (i + 1) events) (subst AreInOrder whole o) (subst (λ x. ChangesAt x a b f) whole c) k r doc from to)

      next-told : (rows : List R) → f e.doc.0 e.at.seconds ≡ Some (k.value r) → AreLaid k (with_row k (done f a b (drop i events)) r) rows → AreLaid k (done f a b (drop (i + 1) events)) rows
      next-told rows h p = record {
        apart = p.apart;
        same = λ d t. p.same d t ∙ ap (λ x. with_row k (done f a b x) r d t) left ∙ told (take i events) e (drop (i + 1) events) (subst AreInOrder whole o) (subst (λ x. ChangesAt x a b f) whole c) k r doc from to h d t;
      }

      -- where a stretch is put behind others
      pub next-put : (rows more : List R) → f e.doc.0 e.at.seconds ≡ Some (k.value r) → ((g : ℕ → ℕ → Option V) → AreLaid k g rows → IsBehind k g r → AreLaid k (with_row k g r) more)
          → AreLaid k (done f a b (drop i events)) rows → AreLaid k (done f a b (drop (i + 1) events)) more
      next-put rows more h put p = next-told more h (put (done f a b (drop i events)) p next-behind)

  -- behind the last event everything is said
  pub finish : {R : Type 0} (k : Kind R V) (events : List Event) (i : ℕ) (rows : List R) → length events ≤ i → AreLaid k (done f a b (drop i events)) rows → AreLaid k (inside f a b) rows
  finish k events i rows l h = subst (λ x. AreLaid k (done f a b x) rows) (drop_all i events l) h

-- the event at a place
pub event-at : (events : List Event) (i : ℕ) → i < length events → (e : Event) × (e ≡ get_or events i e)
event-at [] i l = absurd (omega (arith, l))
event-at (x ∷ events) zero l = (x, refl)
event-at (x ∷ events) (suc i) l = event-at events i (omega (arith, l))

-- a step of a loop over events that are given again
module _ {R V : Type 0} (k : Kind R V) (f : ℕ → ℕ → Option V) (a b : ℕ) (events given : List Event) (o : AreInOrder events) (w : ChangesAt events a b f) (i : ℕ) (l : i < length events) (same : given ≡ events) (rows more : List R) where
  -- a piece in which something is said is put behind others
  pub put : (new : List R) (r : R) → more ≡ new → ((e : Event) → e ≡ get_or given i e → (k.doc r ≡ e.doc.0) × (k.from r ≡ e.at.seconds) × (k.to r ≡ end_of e (drop (i + 1) given) b) × (f e.doc.0 e.at.seconds ≡ Some (k.value r)))
      → ((g : ℕ → ℕ → Option V) → AreLaid k g rows → IsBehind k g r → AreLaid k (with_row k g r) new) → AreLaid k (done f a b (drop i events)) rows → AreLaid k (done f a b (drop (i + 1) events)) more
  put new r n h p g =
      let (e, is) = event-at events i l in
      let (doc, from, to, some) = h e (is ∙ ap (λ x. get_or x i e) (sym same)) in
      subst (λ x. AreLaid k (done f a b (drop (i + 1) events)) x) (sym n) (next-put f a b events o w i e l is k r doc from (to ∙ ap (λ x. end_of e (drop (i + 1) x) b) same) rows new some p g)

  -- one in which nothing is said is passed
  pub pass : more ≡ rows → ((e : Event) → e ≡ get_or given i e → (end_of e (drop (i + 1) given) b ≤ e.at.seconds) ⊎ (f e.doc.0 e.at.seconds ≡ None)) → AreLaid k (done f a b (drop i events)) rows → AreLaid k (done f a b (drop (i + 1) events)) more
  pass n h g =
      let (e, is) = event-at events i l in
      subst (λ x. AreLaid k (done f a b (drop (i + 1) events)) x) (sym n)
      (next-silent f a b events o w i e l is k rows (subst (λ x. (end_of e (drop (i + 1) x) b ≤ e.at.seconds) ⊎ (f e.doc.0 e.at.seconds ≡ None)) same (h e (is ∙ ap (λ x. get_or x i e) (sym same)))) g)
