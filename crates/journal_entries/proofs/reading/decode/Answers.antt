use Rattle.std.proofs.Common.{◌≡◌, ◌-◌, length, subst, arith}
use Rattle.journal_entries.specs.Faults.{IsFault}
use Rattle.journal_entries.proofs.EntryLemmas.{entry_takes, entry_left, entry_only, entry_none}
use Rattle.journal_entries.proofs.FaultLemmas.{fault_at}
use Rattle.journal_entries.proofs.reading.decode.Goals as goal

pub overflow_sub-result : goal.overflow_sub-result
overflow_sub-result c = entry_left c.args.body.now c.in-Err-Form.left (rw c.in-Err-Form.field-0-is at c.in-Err-Form.ensures)

pub returns-in-Ok-clause-found : goal.returns-in-Ok-clause-found
returns-in-Ok-clause-found c = entry_takes c.args.body.now c.in-Ok.entry (λ i. omega (arith, c.type_inv.body i)) c.in-Ok.ensures

pub returns-in-Ok-clause-only : goal.returns-in-Ok-clause-only
returns-in-Ok-clause-only c = λ e fits same. entry_only c.args.body.now c.in-Ok.entry e c.in-Ok.ensures fits same

pub returns-in-Err-Form-clause-only : goal.returns-in-Err-Form-clause-only
returns-in-Err-Form-clause-only c = λ e fits same. entry_none c.args.body.now c.in-Err-Form.left e (rw c.in-Err-Form.field-0-is at c.in-Err-Form.ensures) fits same

pub returns-in-Err-Form-clause-fault : goal.returns-in-Err-Form-clause-fault
returns-in-Err-Form-clause-fault c = λ at is.
    let fault = fault_at c.args.body.now c.in-Err-Form.left (λ i. omega (arith, c.type_inv.body i)) (rw c.in-Err-Form.field-0-is at c.in-Err-Form.ensures) in
    let same : length c.args.body.now - c.in-Err-Form.left ≡ at = cc in
    subst (IsFault c.args.body.now) same fault
