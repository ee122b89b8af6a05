use Rattle.std.proofs.Common.{◌≡◌, ◌++◌, length, take}
use Rattle.journal_entries.specs.PlanBytes.{segments_bytes}
use Rattle.journal_entries.proofs.plan_writing.put_segments.Given as goal

abbrev pub invariant-loop-cut : goal.invariant-loop-cut
invariant-loop-cut l = l.out.items ≡ l.fn.out.items ++ segments_bytes (take (length l.yielded) l.cuts) (take (length l.yielded) l.places)
