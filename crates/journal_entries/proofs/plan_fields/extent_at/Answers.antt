use Rattle.journal_entries.proofs.PlanFieldLemmas.{extent_read}
use Rattle.journal_entries.proofs.plan_fields.extent_at.Goals as goal

pub returns-in-Some : goal.returns-in-Some
returns-in-Some c = extent_read c.args.bytes.now c.in_ok-first.rest.now c.in_ok-len.behind.now c.in_ok-first.first c.in_ok-len.len c.in-Some.extent c.in_ok-first.ensures c.in_ok-len.ensures c.in-Some.ensures.value.0 c.in-Some.ensures.value.1
