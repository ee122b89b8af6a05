use Rattle.std.proofs.Common.{◌≡◌, ◌<◌, ◌≤◌, ◌+◌, ◌^◌, ℕ, length}
use Rattle.std.specs.Prelude.{slice_index, All}
use Rattle.plans_space.specs.Loads.{IsWeight}
use Rattle.plans_space.proofs.weights.weights_of.Given as goal

abbrev pub invariant-loop-k : goal.invariant-loop-k
invariant-loop-k g l = record {
  long : length l.weights.items + 1 ≡ l.k;
  each : (k : ℕ) → k < length l.weights.items → IsWeight (goal.F-post g l.load) (slice_index l.times k) (slice_index l.times (k + 1)) (slice_index l.weights.items k);
  few : All (λ w. w ≤ 2 ^ 40) l.weights.items;
}
