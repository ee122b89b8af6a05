-- The way along the best picks.
use Rattle.std.specs.Prelude.{◌≡◌, ℕ, ◌+◌, ◌-◌, ◌<◌, ◌≤◌, Option, Some, None, IsSome, List, [], ◌∷◌, ◌++◌, length, refl}
use Rattle.std.proofs.Common.{arith, ap, sym, ◌∙◌, subst}
use Rattle.std.proofs.lemmas.List.{append_assoc}
use Rattle.plans_space.specs.Steps.{IsLeastOf, IsLeast}
use Rattle.plans_space.proofs.LeastLemmas.{Begins, behind_of}
use Rattle.plans_share.specs.Choices.{Offered, picked}
use Rattle.plans_share.specs.Steps.{IsWithin, IsSettled, IsBestPick, through}
use Rattle.plans_share.specs.declared.steps.Pick.{Pick}
use Rattle.plans_share.proofs.Cells.{cost_of, by_pick, cell_by}

-- the picks so far: some rest of them keeps what is left, and any such rest that costs no more may be taken
pub record IsUnderway (offers : List Offered) (budget most : ℕ) (picks : List ℕ) (ahead : List Offered) (left : ℕ) : Type 0 where
  pub within : left ≤ budget
  pub path : List ℕ
  pub is : IsWithin ahead left path
  pub goes_on : (rest : List ℕ) → IsWithin ahead left rest → cost_of ahead rest ≤ cost_of ahead path → IsWithin offers budget (picks ++ rest) × (cost_of offers (picks ++ rest) ≤ most)

module _ (offer : Offered) (rest : List Offered) (width : ℕ) (below : List (Option ℕ)) (s : IsSettled rest width below) (left : ℕ) (w : left < width) where
  -- where there is a way there is a best pick
  pub way_on : (path : List ℕ) → IsWithin (offer ∷ rest) left path → (next : Option Pick) → IsBestPick (λ k. through below (picked offer k) left) (length offer.front + 1) next → IsSome next
  way_on path p None b = absurd (cell_by offer rest width below s left w None b path p)
  way_on path p (Some next) b = refl

  pub walk-more : (offers : List Offered) (budget most : ℕ) (picks new : List ℕ) (next : Pick) (charge : ℕ) → IsBestPick (λ k. through below (picked offer k) left) (length offer.front + 1) (Some next)
      → charge ≡ (picked offer next.pick).charge → new ≡ picks ++ next.pick ∷ [] → IsUnderway offers budget most picks (offer ∷ rest) left
      → (charge ≤ left) × IsUnderway offers budget most new rest (left - charge)
  walk-more offers budget most picks new next charge (to, is, low) e f u = go (behind_of (λ z. IsWithin (offer ∷ rest) left (next.pick ∷ z)) (cost_of (offer ∷ rest)) next.pick next.cost leg)
    where
      leg : IsLeastOf (Begins (λ z. IsWithin (offer ∷ rest) left (next.pick ∷ z)) next.pick) (cost_of (offer ∷ rest)) next.cost
      leg = subst (λ (o : Option ℕ). IsLeast (Begins (λ z. IsWithin (offer ∷ rest) left (next.pick ∷ z)) next.pick) (cost_of (offer ∷ rest)) o) is (by_pick offer rest width below s left w next.pick (omega (arith, to)))

      all : IsLeastOf (IsWithin (offer ∷ rest) left) (cost_of (offer ∷ rest)) next.cost
      all = cell_by offer rest width below s left w (Some next.cost) (next.pick, (to, is, low))

      go : (path : List ℕ) × IsWithin (offer ∷ rest) left (next.pick ∷ path) × (cost_of (offer ∷ rest) (next.pick ∷ path) ≡ next.cost) → (charge ≤ left) × IsUnderway offers budget most new rest (left - charge)
      go (path, p, t) = (
        omega (arith, p.1, e),
        record {
          within = omega (arith, u.within);
          path = path;
          is = (p.0.1, omega (arith, p.1, e));
          goes_on = λ x r d. subst (λ (l : List ℕ). IsWithin offers budget l × (cost_of offers l ≤ most))
              (sym (append_assoc picks (next.pick ∷ []) x) ∙ ap (λ (l : List ℕ). l ++ x) (sym f))
              (u.goes_on (next.pick ∷ x) ((p.0.0, r.0), omega (arith, r.1, p.1, e)) (omega (arith, d, t, all.least u.path u.is)));
        },
      )
