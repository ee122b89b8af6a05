use Rattle.std.proofs.Common.{◌≡◌, ◌-◌}
use Rattle.journal_entries.specs.PlanReading.{segments_at}
use Rattle.journal_entries.proofs.SegmentLemmas.{with_front}
use Rattle.journal_entries.proofs.plan_reading.segments_at.Given as goal

abbrev pub invariant-loop : goal.invariant-loop
invariant-loop l = with_front l.cuts.items l.places.items (segments_at (l.count - l.counter) l.least l.horizon l.rest) ≡ segments_at l.count 0 l.horizon l.bytes
