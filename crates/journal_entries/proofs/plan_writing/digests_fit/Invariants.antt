use Rattle.std.proofs.Common.{take, All}
use Rattle.journal_entries.specs.PlanSpelling.{IsDigest}
use Rattle.journal_entries.proofs.plan_writing.digests_fit.Given as goal

abbrev pub invariant-loop-place : goal.invariant-loop-place
invariant-loop-place l = All (λ place. IsDigest place.digest) (take l.place-index l.places)
