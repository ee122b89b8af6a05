use Rattle.std.proofs.Common.{arith}
use Rattle.base_types.proofs.Readings.{Within-err}
use Rattle.journal_entries.specs.Reading.{act_at}
use Rattle.journal_entries.proofs.ActLemmas.{act_within}
use Rattle.journal_entries.proofs.batch_reading.act_of.Goals as goal
use Rattle.std.specs.Prelude.{length}

pub overflow_add-result : goal.overflow_add-result
overflow_add-result c =
    let front = c.split_at.result.0.now in
    let le = Within-err (λ _. 0) (length front) (act_at front) c.in-Err-Form.left (act_within front) (rw c.in-Err-Form.field-0-is at c.in-Err-Form.ensures) in
    omega (arith, le, c.split_at.ensures.front_len, c.split_at.ensures.back_len)
