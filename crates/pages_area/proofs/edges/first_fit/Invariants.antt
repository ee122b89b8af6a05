use Rattle.std.specs.Prelude.{◌≡◌, ◌-◌, ◌%◌, ◌<◌, ◌≤◌, ℕ, length, slice_index}
use Rattle.pages_area.specs.Runs.{pages_for}
use Rattle.pages_area.specs.Edges.{BeginNoEarlier}
use Rattle.pages_area.proofs.edges.first_fit.Given as goal

abbrev pub invariant-loop-bytes : goal.invariant-loop-bytes
invariant-loop-bytes l = record {
  within : l.at ≤ length l.edges;
  even : l.at % 2 ≡ 0;
  low : (k : ℕ) → k < l.at → slice_index l.edges k ≤ l.first;
  lowest : BeginNoEarlier (pages_for l.bytes) l.edges l.first;
}

abbrev pub decreases-loop-bytes : goal.decreases-loop-bytes
decreases-loop-bytes l = length l.edges - l.at
