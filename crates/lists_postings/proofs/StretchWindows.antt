-- Longest stretches inside a window look at its times alone.
use Rattle.std.specs.Prelude.{◌≡◌, ℕ, ◌-◌, ◌<◌, ◌≤◌, List, Option}
use Rattle.std.proofs.Common.{arith, sym, ◌∙◌, inl, inr}
use Rattle.std.proofs.lemmas.Bool.{cases_lt}
use Rattle.lists_postings.specs.Stretches.{Kind, IsLongest, AreStretches}

-- so what is so of documents may be told by anything that agrees there
module _ {R V : Type 0} (k : Kind R V) (f g : ℕ → ℕ → Option V) (a b : ℕ) (same : (d t : ℕ) → a ≤ t → t < b → f d t ≡ g d t) where
  longest-same : (r : R) → IsLongest k f a b r → IsLongest k g a b r
  longest-same r l =
      let some = k.some r in
      record {
        begins = l.begins;
        ends = l.ends;
        same = λ t x y. sym (same (k.doc r) t (omega (arith, l.begins, x)) (omega (arith, y, l.ends))) ∙ l.same t x y;
        new = elim (cases_lt a (k.from r)) [
          | inr e ↦ inl (omega (arith, l.begins, e))
          | inl x ↦ elim l.new [
            | inl e ↦ inl e
            | inr n ↦ inr (λ e. n (same (k.doc r) (k.from r - 1) (omega (arith, x)) (omega (arith, some, l.ends, x)) ∙ e))
          ]
        ];
        over = elim (cases_lt (k.to r) b) [
          | inr e ↦ inl (omega (arith, l.ends, e))
          | inl x ↦ elim l.over [
            | inl e ↦ inl e
            | inr n ↦ inr (λ e. n (same (k.doc r) (k.to r) (omega (arith, some, l.begins)) x ∙ e))
          ]
        ];
      }

  pub stretches-same : (rows : List R) → AreStretches k f a b rows → AreStretches k g a b rows
  stretches-same rows h = record {
    ordered = h.ordered;
    longest = λ r c. longest-same r (h.longest r c);
    covered = λ d t v x y e. h.covered d t v x y (same d t x y ∙ e);
  }
