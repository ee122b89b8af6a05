use Rattle.std.specs.Prelude.{◌≡◌}
use Rattle.archive_plans.proofs.SegmentLemmas.{chosen_from}
use Rattle.archive_plans.proofs.segment.segment_at.Given as goal

abbrev pub invariant-loop-k : goal.invariant-loop-k
invariant-loop-k l = record {
  cuts : l.cuts ≡ l.plan.cuts;
  places : l.places ≡ l.plan.places;
  passed : chosen_from l.t.seconds l.plan.horizon.seconds l.cuts l.places 0 ≡ chosen_from l.t.seconds l.plan.horizon.seconds l.cuts l.places l.k;
}
