use Rattle.journal_entries.proofs.PlanFieldLemmas.{fraction_read}
use Rattle.journal_entries.proofs.plan_fields.fraction_at.Goals as goal

pub returns-in-Some : goal.returns-in-Some
returns-in-Some c = fraction_read c.args.bytes.now c.in_ok-over.rest.now c.in_ok-under.behind.now c.in_ok-over.over c.in_ok-under.under c.in-Some.fraction c.in_ok-over.ensures c.in_ok-under.ensures c.in-Some.ensures.value.0 c.in-Some.ensures.value.1
