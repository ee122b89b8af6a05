-- The weights and their sums.
use Rattle.std.specs.Prelude.{◌≡◌, ℕ, zero, suc, ◌+◌, ◌-◌, ◌^◌, ◌<◌, ◌≤◌, Option, Some, IfSome, List, [], ◌∷◌, ◌++◌, length, slice_index, All}
use Rattle.std.proofs.Common.{arith, ap, sym, ◌∙◌, subst}
use Rattle.std.specs.List.Sorted.{IsStrictlyIncreasing}
use Rattle.std.proofs.lemmas.List.Elements.{All-append, All-cons, All-nil}
use Rattle.plans_partitions.proofs.Places.{rises}
use Rattle.base_types.specs.declared.time.Span.{Span}
use Rattle.plans_space.specs.Loads.{IsWeight}

pub weight_new : (Answers : Span → ℕ → Type 0) (times weights : List ℕ) (k w : ℕ) (made : Option Span) (span : Span) → length weights + 1 ≡ k → made ≡ Some span → IfSome made (λ s. (s.from ≡ slice_index times (k - 1)) × (s.to ≡ slice_index times k)) → Answers span w
    → IsWeight Answers (slice_index times (length weights)) (slice_index times (length weights + 1)) w
weight_new Answers times weights k w made span e m ends a =
    let both : (span.from ≡ slice_index times (k - 1)) × (span.to ≡ slice_index times k) = subst (λ (o : Option Span). IfSome o (λ s. (s.from ≡ slice_index times (k - 1)) × (s.to ≡ slice_index times k))) m ends in
    let f : k - 1 ≡ length weights = omega arith in
    record {
      span = span;
      from = both.0 ∙ ap (λ i. slice_index times i) f;
      to = both.1 ∙ ap (λ i. slice_index times i) (sym e);
      answered = a;
    }

pub few_more : (weights : List ℕ) (w : ℕ) → All (λ x. x ≤ 2 ^ 40) weights → w ≤ 2 ^ 40 → All (λ x. x ≤ 2 ^ 40) (weights ++ w ∷ [])
few_more weights w few l = All-append (λ x. x ≤ 2 ^ 40) weights (w ∷ []) few (All-cons (λ x. x ≤ 2 ^ 40) w [] l (All-nil (λ x. x ≤ 2 ^ 40)))

-- so many times are at most 2^40
at_least_place : (xs : List ℕ) → IsStrictlyIncreasing xs → (k : ℕ) → k < length xs → k ≤ slice_index xs k
at_least_place xs up zero l = omega arith
at_least_place xs up (suc k) l = omega (arith, at_least_place xs up k (omega arith), rises xs up k (suc k) (omega arith) l)

pub times_short : (xs : List ℕ) → IsStrictlyIncreasing xs → All (λ x. x < 2 ^ 40) xs → 2 ≤ length xs → length xs ≤ 2 ^ 40
times_short xs up low some = omega (arith, at_least_place xs up (length xs - 1) (omega arith), low (length xs - 1) 0 (omega arith))
