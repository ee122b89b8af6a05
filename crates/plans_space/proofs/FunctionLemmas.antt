-- Weights that a function of two ends gives.
use Rattle.std.specs.Prelude.{◌≡◌, ℕ, suc, ◌+◌, ◌<◌, List, [], ◌∷◌, length, slice_index, refl}
use Rattle.std.proofs.Common.{arith, ap, subst, ◌∙◌}
use Rattle.base_types.specs.declared.time.Span.{Span}
use Rattle.plans_space.specs.Loads.{IsWeight, AreWeights, weights_by}
use Rattle.plans_space.specs.Laws.{WeightsOfAFunction}

-- the weights behind the first
behind : (Answers : Span → ℕ → Type 0) (t u w : ℕ) (times weights : List ℕ) → AreWeights Answers (t ∷ u ∷ times) (w ∷ weights) → AreWeights Answers (u ∷ times) weights
behind Answers t u w times weights a = record { long = omega (arith, a.long); each = each }
  where
    each : (k : ℕ) → k < length weights → IsWeight Answers (slice_index (u ∷ times) k) (slice_index (u ∷ times) (k + 1)) (slice_index weights k)
    each k l =
        let e : suc k + 1 ≡ suc (k + 1) = omega arith in
        subst (λ i. IsWeight Answers (slice_index (t ∷ u ∷ times) (suc k)) (slice_index (t ∷ u ∷ times) i) (slice_index (w ∷ weights) (suc k))) e (a.each (suc k) (omega (arith, l)))

pub by_function : (Answers : Span → ℕ → Type 0) → WeightsOfAFunction Answers
by_function Answers weight [] weights h a = absurd (omega (arith, a.long))
by_function Answers weight (t ∷ []) [] h a = refl
by_function Answers weight (t ∷ []) (w ∷ weights) h a = absurd (omega (arith, a.long))
by_function Answers weight (t ∷ u ∷ times) [] h a = absurd (omega (arith, a.long))
by_function Answers weight (t ∷ u ∷ times) (w ∷ weights) h a =
    let e : w ≡ weight t u = first (a.each 0 (omega arith)) in
    let rest : weights ≡ weights_by weight (u ∷ times) = by_function Answers weight (u ∷ times) weights h (behind Answers t u w times weights a) in
    cc
  where
    first : IsWeight Answers t u w → w ≡ weight t u
    first i = h i.span w i.answered ∙ ap (λ f. weight f i.span.to) i.from ∙ ap (λ g. weight t g) i.to
