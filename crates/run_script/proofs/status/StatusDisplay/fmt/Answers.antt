use Rattle.std.proofs.Common.{append_assoc}
use Rattle.std.proofs.Output.{has_written_of_eq}
use Rattle.run_script.proofs.status.StatusDisplay.fmt.Goals as goal

pub returns-in-Gap-clause-writes : goal.returns-in-Gap-clause-writes
returns-in-Gap-clause-writes g c = rw c.in-Gap.is (λ plain ok. has_written_of_eq _ _ _ _ _ (simp append_assoc) (c.write-in-Gap.ensures.writes plain ok))

pub returns-in-Conflict-clause-writes : goal.returns-in-Conflict-clause-writes
returns-in-Conflict-clause-writes g c = rw c.in-Conflict.is (λ plain ok. has_written_of_eq _ _ _ _ _ (simp append_assoc) (c.write-in-Conflict.ensures.writes plain ok))
