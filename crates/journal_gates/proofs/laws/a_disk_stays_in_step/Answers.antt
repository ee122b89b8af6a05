use Rattle.journal_gates.proofs.StepLemmas.{stays_in_step}
use Rattle.journal_gates.proofs.laws.a_disk_stays_in_step.Goals as goal

pub returns : goal.returns
returns c = stays_in_step
