-- How often each time is asked for, by a function that weighs spans.
use Rattle.std.specs.Prelude.{◌≡◌, ℕ, ◌+◌, ◌<◌, ◌≤◌, ◌^◌, List, [], ◌∷◌, length, slice_index}
use Rattle.base_types.specs.declared.time.Span.{Span}

-- A function weighs spans: it may be called on every span, and answers at most 2^40.
pub record Weighs (MayCall : Span → Type 0) (Answers : Span → ℕ → Type 0) : Type 0 where
  pub callable : (span : Span) → MayCall span
  pub few : (span : Span) (weight : ℕ) → Answers span weight → weight ≤ 2 ^ 40

-- The span from the one time to the other has the weight.
pub record IsWeight (Answers : Span → ℕ → Type 0) (f g weight : ℕ) : Type 0 where
  pub span : Span
  pub from : span.from ≡ f
  pub to : span.to ≡ g
  pub answered : Answers span weight

-- The weights are answers for the elementary intervals between the times, in order.
pub record AreWeights (Answers : Span → ℕ → Type 0) (times weights : List ℕ) : Type 0 where
  pub long : length weights + 1 ≡ length times
  pub each : (k : ℕ) → k < length weights → IsWeight Answers (slice_index times k) (slice_index times (k + 1)) (slice_index weights k)

-- The weights of the elementary intervals between the times, in order, by a function of their two ends.
abbrev pub weights_by : (ℕ → ℕ → ℕ) → List ℕ → List ℕ
weights_by weight [] = []
weights_by weight (t ∷ []) = []
weights_by weight (t ∷ u ∷ times) = weight t u ∷ weights_by weight (u ∷ times)
