use Rattle.std.proofs.Common.{arith}
use Rattle.journal_entries.proofs.PlanFieldLemmas.{word_read, word_fails}
use Rattle.journal_entries.proofs.plan_fields.word_at.Goals as goal

pub returns-in-Ok-clause-read : goal.returns-in-Ok-clause-read
returns-in-Ok-clause-read c = word_read c.args.len c.args.bytes.now c.in-Ok.text.now c.split_at.result.0.now c.split_at.result.1.now (omega arith) c.split_at.ensures.front c.split_at.ensures.back c.in-Ok.ensures.cases.0 c.in-Ok.ensures.cases.1

pub returns-in-Err-clause-read : goal.returns-in-Err-clause-read
returns-in-Err-clause-read c = rw c.fault-in-Err.ensures (word_fails c.args.len c.args.bytes.now c.split_at.result.0.now c.split_at.ensures.front c.in-Err.ensures.cases.0)
