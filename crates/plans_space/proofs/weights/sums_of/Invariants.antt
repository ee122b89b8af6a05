use Rattle.std.proofs.Common.{◌≡◌, ◌<◌, ◌≤◌, ◌+◌, ◌*◌, ◌^◌, ℕ, length}
use Rattle.std.specs.Prelude.{slice_index}
use Rattle.plans_space.proofs.weights.sums_of.Given as goal

abbrev pub invariant-loop-weight : goal.invariant-loop-weight
invariant-loop-weight l = record {
  long : length l.sums.items ≡ l.weight-index + 1;
  none : slice_index l.sums.items 0 ≡ 0;
  next : (k : ℕ) → k < l.weight-index → slice_index l.sums.items (k + 1) ≡ slice_index l.sums.items k + slice_index l.weights k;
  small : (k : ℕ) → k < length l.sums.items → slice_index l.sums.items k ≤ k * 2 ^ 40;
  rising : (j k : ℕ) → j ≤ k → k < length l.sums.items → slice_index l.sums.items j ≤ slice_index l.sums.items k;
  last : l.sum ≡ slice_index l.sums.items l.weight-index;
}
