use Rattle.std.proofs.Common.{◌≡◌, ℕ, ◌<◌, ◌≤◌, None}
use Rattle.std.specs.Prelude.{slice_index_or}
use Rattle.plans_space.specs.Steps.{lesser, through}
use Rattle.plans_space.proofs.steps.lower_by.Given as goal

abbrev pub invariant-loop-c : goal.invariant-loop-c
invariant-loop-c l = record {
  lowered : (k : ℕ) → k < l.c → slice_index_or l.row k None ≡ lesser (slice_index_or l.fn.row k None) (through l.cells l.width l.legs.charges.items l.legs.costs.items k l.j);
  kept : (k : ℕ) → l.c ≤ k → slice_index_or l.row k None ≡ slice_index_or l.fn.row k None;
}
