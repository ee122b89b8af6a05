use Rattle.std.specs.Prelude.{length}
use Rattle.archive_check.proofs.segments.+first_faults.Given as goal

abbrev pub decreases-first_faults : goal.decreases-first_faults
decreases-first_faults g l = length l.cuts.now
