-- The longest stretches are one list.
use Rattle.std.specs.Prelude.{◌≡◌, ℕ, ◌-◌, ◌<◌, List, Contains, Option, Some}
use Rattle.std.proofs.Common.{arith, ap, sym, ◌∙◌, subst, inl, inr}
use Rattle.std.proofs.lemmas.Bool.{cases_order}
use Rattle.lists_postings.specs.Stretches.{Kind, Before, IsLongest, AreStretches}
use Rattle.lists_postings.specs.StretchLaws.{IsPlain, ExactlyTheLongest, StretchesAreOne}
use Rattle.lists_postings.proofs.Elements.{one_order}
use Rattle.lists_postings.proofs.Laid.{before-trans, before-never}

equal : (a b : ℕ) → (a < b → ⊥) → (b < a → ⊥) → a ≡ b
equal a b x y = elim (cases_order a b) [ inl e ↦ e | inr o ↦ elim o [ inl l ↦ absurd (x l) | inr l ↦ absurd (y l) ] ]

module _ {R V : Type 0} (k : Kind R V) (f : ℕ → ℕ → Option V) (a b : ℕ) where
  -- of two longest stretches of one value that share a time, neither begins or ends sooner
  sooner : (p q : R) → IsLongest k f a b p → IsLongest k f a b q → k.doc p ≡ k.doc q → k.value p ≡ k.value q → k.from p < k.to q → k.from q < k.from p → ⊥
  sooner p q hp hq d n m h = elim hp.new [
    | inl e ↦ omega (arith, hq.begins, e, h)
    | inr x ↦ x (ap (λ w. f w (k.from p - 1)) d ∙ hq.same (k.from p - 1) (omega (arith, h)) (omega (arith, m)) ∙ ap (λ v. Some v) (sym n))
  ]

  longer : (p q : R) → IsLongest k f a b p → IsLongest k f a b q → k.doc p ≡ k.doc q → k.value p ≡ k.value q → k.from q < k.to p → k.to p < k.to q → ⊥
  longer p q hp hq d n m h = elim hp.over [
    | inl e ↦ omega (arith, hq.ends, e, h)
    | inr x ↦ x (ap (λ w. f w (k.to p)) d ∙ hq.same (k.to p) (omega (arith, m)) h ∙ ap (λ v. Some v) (sym n))
  ]

  listed : IsPlain k → (rows : List R) → AreStretches k f a b rows → (r : R) → IsLongest k f a b r → Contains rows r
  listed plain rows h r w =
      let s = k.some r in
      let u = w.same (k.from r) (omega arith) s in
      let (q, c, d, x, y) = h.covered (k.doc r) (k.from r) (k.value r) w.begins (omega (arith, s, w.ends)) u in
      let l = h.longest q c in
      let n : k.value q ≡ k.value r = (let e = sym (l.same (k.from r) x y) ∙ ap (λ z. f z (k.from r)) d ∙ u in cc) in
      let e : q ≡ r = plain q r d
      (equal _ _ (λ z. sooner r q w l (sym d) (sym n) y z) (λ z. omega (arith, x, z)))
      (equal _ _ (λ z. longer q r l w d n (omega (arith, y)) z) (λ z. longer r q w l (sym d) (sym n) (omega (arith, x, s)) z))
      n in
      subst (λ z. Contains rows z) e c

pub exactly : {R V : Type 0} → ExactlyTheLongest R V
exactly k plain f a b rows h r = (h.longest r, listed k f a b plain rows h r)

pub one : {R V : Type 0} → StretchesAreOne R V
one k plain f a b xs ys h g = one_order (Before k) (before-trans k) (before-never k) xs ys h.ordered g.ordered (λ r. (λ c. listed k f a b plain ys g r (h.longest r c), λ c. listed k f a b plain xs h r (g.longest r c)))
