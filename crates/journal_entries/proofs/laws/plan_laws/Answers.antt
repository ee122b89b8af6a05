use Rattle.journal_entries.proofs.PlanLemmas.{spelling_length, plan_long}
use Rattle.journal_entries.proofs.laws.plan_laws.Goals as goal

pub returns-clause-len : goal.returns-clause-len
returns-clause-len c = spelling_length

pub returns-clause-at_least : goal.returns-clause-at_least
returns-clause-at_least c = plan_long
