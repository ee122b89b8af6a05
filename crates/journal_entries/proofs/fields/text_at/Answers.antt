use Rattle.std.proofs.Common.{◌∙◌, arith}
use Rattle.journal_entries.proofs.FieldLemmas.{text_at-ok, text_at-err}
use Rattle.journal_entries.proofs.fields.text_at.Goals as goal

pub returns-in_ok-copy_of-in-Ok : goal.returns-in_ok-copy_of-in-Ok
returns-in_ok-copy_of-in-Ok c = text_at-ok c.args.bytes.now c.in_ok-copy_of-in-Ok.field-0 (c.in_ok-copy_of-in-Ok.ensures ∙ c.in-Ok.ensures.cases.0) (omega arith) c.in-Ok.ensures.cases.1

pub returns-in-Err : goal.returns-in-Err
returns-in-Err c = rw c.fault-in-Err.ensures (text_at-err c.args.bytes.now c.in-Err.ensures.cases.0)
