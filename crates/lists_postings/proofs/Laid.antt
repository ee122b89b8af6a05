-- Stretches that are laid one behind the other, and the longest ones.
use Rattle.std.specs.Prelude.{◌≡◌, ◌≢◌, ◌⊎◌, ℕ, ◌-◌, ◌<◌, ◌≤◌, ◌==◌, ◌&&◌, ◌||◌, Bool, true, false, if◌then◌else◌, nat_le, nat_lt, List, [], ◌∷◌, Contains, Option, Some, None, is_some, refl}
use Rattle.std.specs.List.{list_any}
use Rattle.std.proofs.Common.{arith, ap, sym, ◌∙◌, subst, inl, inr}
use Rattle.std.proofs.lemmas.Bool.{cases_eq}
use Rattle.std.proofs.lemmas.Bool.Decides.{nat_tests}
use Rattle.lists_postings.specs.Lists.{EachNext}
use Rattle.lists_postings.proofs.Order.{next-tail, next-later, next-pairs, next-weaker}
use Rattle.lists_postings.specs.Stretches.{Kind, Before, AreStretches}
use Rattle.lists_postings.specs.Laid.{holds, at, Apart, AreLaid}
use Rattle.lists_postings.specs.Events.{inside}
use Rattle.lists_postings.proofs.Elements.{here, later, here-or-later, none}

pub tests_hold : (d x a t b : ℕ) → (x == d) && (nat_le a t && nat_lt t b) ≡ true → (x ≡ d) × (a ≤ t) × (t < b)
tests_hold d x a t b h = (grind (arith, nat_tests), grind (arith, nat_tests), grind (arith, nat_tests))

pub hold_tests : (d x a t b : ℕ) → x ≡ d → a ≤ t → t < b → (x == d) && (nat_le a t && nat_lt t b) ≡ true
hold_tests d x a t b e h l = grind (arith, nat_tests)

in_tests : (a t b : ℕ) → nat_le a t && nat_lt t b ≡ true → (a ≤ t) × (t < b)
in_tests a t b h = (grind (arith, nat_tests), grind (arith, nat_tests))

tests_in : (a t b : ℕ) → a ≤ t → t < b → nat_le a t && nat_lt t b ≡ true
tests_in a t b h l = grind (arith, nat_tests)

some-one : {V : Type 0} (v w : V) → Some v ≡ Some w → v ≡ w
some-one v w e = cc

none-some : {V : Type 0} (v : V) → None ≡ Some v → ⊥
none-some v e = cc

module _ {R V : Type 0} (k : Kind R V) where
  pub before-trans : (p q r : R) → Before k p q → Before k q r → Before k p r
  before-trans p q r x y = let s = k.some q in grind arith

  pub before-never : (p q : R) → Before k p q → Before k q p → ⊥
  before-never p q x y = let s = k.some q in let m = k.some p in grind arith

  apart-before : (p q : R) → Apart k p q → Before k p q
  apart-before p q x = grind arith

  apart-trans : (p q r : R) → Apart k p q → Apart k q r → Apart k p r
  apart-trans p q r x y = go (apart-before p q x) (apart-before q r y)
    where
      go : Before k p q → Before k q r → Apart k p r
      go (inl a) (inl b) = inl (omega (arith, a, b))
      go (inl a) (inr b) = inl (omega (arith, a, b.0))
      go (inr a) (inl b) = inl (omega (arith, a.0, b))
      go (inr a) (inr b) = inr (a.0 ∙ b.0, inl (omega (arith, a.1, b.1, k.some q)))

  -- what a list says is what one of its elements says
  pub found : (d t : ℕ) (v : V) (rows : List R) → at k d t rows ≡ Some v → (r : R) × Contains rows r × (k.doc r ≡ d) × (k.from r ≤ t) × (t < k.to r) × (k.value r ≡ v)
  found d t v [] e = absurd (none-some v e)
  found d t v (r ∷ rows) e = go (holds k d t r) refl e (λ h. found d t v rows h)
    where
      go : (b : Bool) → holds k d t r ≡ b → (if b then Some (k.value r) else at k d t rows) ≡ Some v → (at k d t rows ≡ Some v → (q : R) × Contains rows q × (k.doc q ≡ d) × (k.from q ≤ t) × (t < k.to q) × (k.value q ≡ v))
          → (q : R) × Contains (r ∷ rows) q × (k.doc q ≡ d) × (k.from q ≤ t) × (t < k.to q) × (k.value q ≡ v)
      go true h e rest = let (x, y, z) = tests_hold d (k.doc r) (k.from r) t (k.to r) h in (r, here r rows, x, y, z, some-one _ _ e)
      go false h e rest = let (q, c, x, y, z, w) = rest e in (q, later r q rows c, x, y, z, w)

  -- and what any of them says, where they are in order
  pub said : (t : ℕ) (r : R) (rows : List R) → EachNext (Before k) rows → Contains rows r → k.from r ≤ t → t < k.to r → at k (k.doc r) t rows ≡ Some (k.value r)
  said t r [] o c x y = absurd (none r c)
  said t r (q ∷ rows) o c x y = go (holds k (k.doc r) t q) refl (here-or-later q r rows c) (λ m. said t r rows (next-tail (Before k) q rows o) m x y)
    where
      go : (b : Bool) → holds k (k.doc r) t q ≡ b → (q ≡ r) ⊎ Contains rows r → (Contains rows r → at k (k.doc r) t rows ≡ Some (k.value r)) → (if b then Some (k.value q) else at k (k.doc r) t rows) ≡ Some (k.value r)
      go true h (inl e) rest = ap (λ w. Some (k.value w)) e
      go true h (inr m) rest = absurd (elim (next-later (Before k) before-trans q r rows o m) [
        | inl l ↦ omega (arith, l, (tests_hold (k.doc r) (k.doc q) (k.from q) t (k.to q) h).0)
        | inr l ↦ omega (arith, l.1, x, (tests_hold (k.doc r) (k.doc q) (k.from q) t (k.to q) h).2)
      ])
      go false h (inl e) rest = let yes : holds k (k.doc r) t r ≡ true = hold_tests (k.doc r) (k.doc r) (k.from r) t (k.to r) refl x y in let no = subst (λ w. holds k (k.doc r) t w ≡ false) e h in absurd (cc)
      go false h (inr m) rest = rest m

  -- a list says something where one of its elements does
  pub says-any : (d t : ℕ) (rows : List R) → is_some (at k d t rows) ≡ list_any (holds k d t) rows
  says-any d t [] = refl
  says-any d t (r ∷ rows) = go (holds k d t r) (says-any d t rows)
    where
      go : (b : Bool) → is_some (at k d t rows) ≡ list_any (holds k d t) rows → is_some (if b then Some (k.value r) else at k d t rows) ≡ (b || list_any (holds k d t) rows)
      go true h = refl
      go false h = h

  ordered : (rows : List R) → EachNext (Apart k) rows → EachNext (Before k) rows
  ordered rows a = next-weaker (Apart k) (Before k) apart-before rows a

  module _ (f : ℕ → ℕ → Option V) (a b : ℕ) where
    pub in-is : (d t : ℕ) → a ≤ t → t < b → inside f a b d t ≡ f d t
    in-is d t x y = ap (λ c. if c then f d t else None) (tests_in a t b x y)

    in-some : (d t : ℕ) (v : V) → inside f a b d t ≡ Some v → (a ≤ t) × (t < b)
    in-some d t v e = go (nat_le a t && nat_lt t b) refl e
      where
        go : (c : Bool) → nat_le a t && nat_lt t b ≡ c → (if c then f d t else None) ≡ Some v → (a ≤ t) × (t < b)
        go true h e = in_tests a t b h
        go false h e = absurd (none-some v e)

    -- laid stretches are the longest ones
    pub laid-longest : (rows : List R) → AreLaid k (inside f a b) rows → AreStretches k f a b rows
    laid-longest rows h = record {
      ordered = o;
      longest = λ r c. record {
        begins = (within r c (k.from r) (omega arith) (k.some r)).0;
        ends = let s = k.some r in omega (arith, (within r c (k.to r - 1) (omega (arith, s)) (omega (arith, s))).1, s);
        same = λ t x y. let (p, q) = within r c t x y in sym (in-is (k.doc r) t p q) ∙ says r c t x y;
        new = elim (cases_eq (k.from r) a) [ inl e ↦ inl e | inr n ↦ inr (λ e. before r c n e) ];
        over = elim (cases_eq (k.to r) b) [ inl e ↦ inl e | inr n ↦ inr (λ e. after r c n e) ];
      };
      covered = λ d t v x y e. let (r, c, p, q, s, w) = found d t v rows (h.same d t ∙ in-is d t x y ∙ e) in (r, c, p, q, s);
    }
      where
        o : EachNext (Before k) rows
        o = ordered rows h.apart

        says : (r : R) → Contains rows r → (t : ℕ) → k.from r ≤ t → t < k.to r → inside f a b (k.doc r) t ≡ Some (k.value r)
        says r c t x y = sym (h.same (k.doc r) t) ∙ said t r rows o c x y

        within : (r : R) → Contains rows r → (t : ℕ) → k.from r ≤ t → t < k.to r → (a ≤ t) × (t < b)
        within r c t x y = in-some (k.doc r) t (k.value r) (says r c t x y)

        before : (r : R) → Contains rows r → k.from r ≢ a → f (k.doc r) (k.from r - 1) ≡ Some (k.value r) → ⊥
        before r c n e =
            let s = k.some r in
            let (x, y) = within r c (k.from r) (omega arith) s in
            let (q, m, d, i, j, w) = found (k.doc r) (k.from r - 1) (k.value r) rows (h.same (k.doc r) (k.from r - 1) ∙ in-is (k.doc r) (k.from r - 1) (omega (arith, x, n)) (omega (arith, y)) ∙ e) in
            elim (next-pairs (Apart k) apart-trans q r rows h.apart m c) [
              | inl u ↦ omega (arith, x, n, i, ap {B = ℕ} (λ z. k.from z) u)
              | inr u ↦ elim u [
                | inl l ↦ elim l [
                  | inl l ↦ omega (arith, l, d)
                  | inr l ↦ elim l.1 [ inl g ↦ omega (arith, g, j) | inr g ↦ g.1 w ]
                ]
                | inr l ↦ elim (apart-before r q l) [ inl l ↦ omega (arith, l, d) | inr l ↦ omega (arith, l.1, i, s, x, n) ]
              ]
            ]

        after : (r : R) → Contains rows r → k.to r ≢ b → f (k.doc r) (k.to r) ≡ Some (k.value r) → ⊥
        after r c n e =
            let s = k.some r in
            let (x, y) = within r c (k.to r - 1) (omega (arith, s)) (omega (arith, s)) in
            let (q, m, d, i, j, w) = found (k.doc r) (k.to r) (k.value r) rows (h.same (k.doc r) (k.to r) ∙ in-is (k.doc r) (k.to r) (omega (arith, x)) (omega (arith, y, n, s)) ∙ e) in
            elim (next-pairs (Apart k) apart-trans q r rows h.apart m c) [
              | inl u ↦ omega (arith, j, ap {B = ℕ} (λ z. k.to z) u)
              | inr u ↦ elim u [
                | inl l ↦ elim (apart-before q r l) [ inl l ↦ omega (arith, l, d) | inr l ↦ omega (arith, l.1, s, j) ]
                | inr l ↦ elim l [
                  | inl l ↦ omega (arith, l, d)
                  | inr l ↦ elim l.1 [ inl g ↦ omega (arith, g, i) | inr g ↦ g.1 (sym w) ]
                ]
              ]
            ]
