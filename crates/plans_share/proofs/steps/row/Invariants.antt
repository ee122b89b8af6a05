use Rattle.std.proofs.Common.{◌≡◌, ℕ, ◌<◌, None, length}
use Rattle.std.specs.Prelude.{slice_index_or}
use Rattle.plans_space.specs.Steps.{IsLeastWay}
use Rattle.plans_share.specs.Choices.{picked}
use Rattle.plans_share.specs.Steps.{through}
use Rattle.plans_share.proofs.steps.row.Given as goal

abbrev pub invariant-loop-pick : goal.invariant-loop-pick
invariant-loop-pick l = record {
  long : length l.row.items ≡ length l.below;
  ways : (c : ℕ) → c < length l.below → IsLeastWay (λ k. through l.below (picked l.offer k) c) l.pick (slice_index_or l.row.items c None);
}
