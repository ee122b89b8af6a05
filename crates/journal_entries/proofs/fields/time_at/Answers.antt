use Rattle.journal_entries.proofs.FieldLemmas.{time_at-some}
use Rattle.journal_entries.proofs.fields.time_at.Goals as goal

pub returns-in-Some : goal.returns-in-Some
returns-in-Some c = time_at-some c.args.bytes.now c.in_ok-seconds.rest.now c.in_ok-seconds.seconds c.in-Some.time c.in_ok-seconds.ensures c.in-Some.ensures.value
