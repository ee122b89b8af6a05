use Rattle.std.proofs.Common.{◌≡◌, ℕ, ◌<◌, ◌≤◌, None, length}
use Rattle.std.specs.Prelude.{slice_index_or}
use Rattle.plans_space.specs.Steps.{lesser}
use Rattle.plans_share.specs.Steps.{through}
use Rattle.plans_share.proofs.steps.lowered.Given as goal

abbrev pub invariant-loop-c : goal.invariant-loop-c
invariant-loop-c l = record {
  long : length l.row.items ≡ length l.fn.row.items;
  lowered : (k : ℕ) → k < l.c → slice_index_or l.row.items k None ≡ lesser (slice_index_or l.fn.row.items k None) (through l.below l.point k);
  kept : (k : ℕ) → l.c ≤ k → slice_index_or l.row.items k None ≡ slice_index_or l.fn.row.items k None;
}
