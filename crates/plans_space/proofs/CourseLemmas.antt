-- The way along the best legs.
use Rattle.std.specs.Prelude.{◌≡◌, ℕ, ◌-◌, ◌<◌, ◌≤◌, Option, Some, None, IsSome, List, [], ◌∷◌, ◌++◌, map, slice_index, refl}
use Rattle.std.proofs.Common.{arith, ap, sym, ◌∙◌, subst}
use Rattle.std.proofs.lemmas.List.{append_assoc, append-nil}
use Rattle.plans_space.specs.Costs.{along}
use Rattle.plans_space.specs.Steps.{IsLeastOf, IsLeast, IsPath, AreCells, through, IsBestOf, IsCourse}
use Rattle.plans_space.specs.declared.steps.Next.{Next}
use Rattle.plans_space.proofs.CellLemmas.{by_leg, cell_by}
use Rattle.plans_space.proofs.LeastLemmas.{Begins, behind_of}

-- the way so far: there is a path on, and any that costs no more may be gone on with
pub record IsUnderway (charge cost : ℕ → ℕ → ℕ) (times places : List ℕ) (n i c v : ℕ) (cuts : List ℕ) (at left : ℕ) : Type 0 where
  pub inside : at < n
  pub within : left ≤ c
  pub path : List ℕ
  pub is : IsPath charge at left path
  pub goes_on : (rest : List ℕ) → IsPath charge at left rest → along cost at rest ≤ along cost at path → IsCourse charge cost times places i c v (cuts ++ map (λ k. slice_index times (slice_index places k)) rest)

pub course_first : (charge cost : ℕ → ℕ → ℕ) (times places : List ℕ) (n i c v : ℕ) (cuts : List ℕ) → i < n → cuts ≡ slice_index times (slice_index places i) ∷ [] → IsLeastOf (IsPath charge i c) (along cost i) v
    → IsUnderway charge cost times places n i c v cuts i c
course_first charge cost times places n i c v cuts l e h = record {
  inside = l;
  within = omega arith;
  path = h.list;
  is = h.is;
  goes_on = λ rest p k. record { path = rest; falls = p.0; within = p.1; takes = omega (arith, k, h.takes); are = ap (λ (l : List ℕ). l ++ map (λ j. slice_index times (slice_index places j)) rest) e };
}

pub course_done : (charge cost : ℕ → ℕ → ℕ) (times places : List ℕ) (n i c v : ℕ) (cuts : List ℕ) (at left : ℕ) → at ≡ 0 → IsUnderway charge cost times places n i c v cuts at left → IsCourse charge cost times places i c v cuts
course_done charge cost times places n i c v cuts at left e u = subst (λ (l : List ℕ). IsCourse charge cost times places i c v l) (append-nil cuts) (u.goes_on [] (e, omega arith) (omega arith))

module _ (charge cost : ℕ → ℕ → ℕ) (width n at left : ℕ) (cells : List (Option ℕ)) (charges costs : List ℕ) (le : at ≤ n) (w : left < width) (s : AreCells charge cost width cells n)
    (q : (j : ℕ) → j < at → slice_index charges j ≡ charge at j) (k : (j : ℕ) → j < at → slice_index costs j ≡ cost at j) (some : 0 < at) where
  -- where there is a path there is a way on
  pub way_on : (path : List ℕ) → IsPath charge at left path → (next : Option Next) → IsBestOf (through cells width charges costs left) at next → IsSome next
  way_on path p None b = absurd (cell_by charge cost width n at left cells charges costs le w s q k some None b path p)
  way_on path p (Some next) b = refl

  pub course_more : (times places : List ℕ) (m i c most : ℕ) (cuts : List ℕ) (x y : ℕ) (next : Next) → at ≤ m → IsBestOf (through cells width charges costs left) at (Some next)
      → x ≡ slice_index times (slice_index places next.to) → y ≡ slice_index charges next.to
      → IsUnderway charge cost times places m i c most cuts at left → IsUnderway charge cost times places m i c most (cuts ++ x ∷ []) next.to (left - y)
  course_more times places m i c most cuts x y next a (to, is, low) t l u = go (behind_of (λ z. IsPath charge at left (next.to ∷ z)) (along cost at) next.to next.cost leg)
    where
      leg : IsLeastOf (Begins (λ z. IsPath charge at left (next.to ∷ z)) next.to) (along cost at) next.cost
      leg = subst (λ (o : Option ℕ). IsLeast (Begins (λ z. IsPath charge at left (next.to ∷ z)) next.to) (along cost at) o) is (by_leg charge cost width n at left cells charges costs le w s q k next.to to)

      all : IsLeastOf (IsPath charge at left) (along cost at) next.cost
      all = cell_by charge cost width n at left cells charges costs le w s q k some (Some next.cost) (next.to, (to, is, low))

      go : (path : List ℕ) × IsPath charge at left (next.to ∷ path) × (along cost at (next.to ∷ path) ≡ next.cost) → IsUnderway charge cost times places m i c most (cuts ++ x ∷ []) next.to (left - y)
      go (path, p, e) = record {
        inside = omega (arith, to, a);
        within = omega (arith, u.within);
        path = path;
        is = (p.0.1, omega (arith, p.1, l, q next.to to));
        goes_on = λ rest r d. subst (λ z. IsCourse charge cost times places i c most z)
            (ap (λ z. cuts ++ (z ∷ map (λ j. slice_index times (slice_index places j)) rest)) (sym t) ∙ sym (append_assoc cuts (x ∷ []) (map (λ j. slice_index times (slice_index places j)) rest)))
            (u.goes_on (next.to ∷ rest) ((to, r.0), omega (arith, r.1, p.1, l, q next.to to)) (omega (arith, d, e, all.least u.path u.is)));
      }
