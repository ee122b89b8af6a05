use Rattle.run_script.proofs.OutcomeLemmas.{answers_by, too_long_by}
use Rattle.run_script.proofs.answer.arrive.Goals as goal

pub returns-in-Bytes-clause-outcome : goal.returns-in-Bytes-clause-outcome
returns-in-Bytes-clause-outcome g c = λ tells s in_step. rw c.in-Bytes.is (answers_by s _ _ _ _ _ _ _ (rw c.as_slice.ensures.value at (c.arrive-result.ensures.by_reads tells s in_step)) c.write_change.ensures.writes)

pub returns-in-TooLong-clause-outcome : goal.returns-in-TooLong-clause-outcome
returns-in-TooLong-clause-outcome g c = λ tells s in_step. too_long_by s c.args.doc c.args.at c.args.text _ _ _ _ _ c.in-TooLong.is in_step c.refuse.ensures.goes_on c.refuse.ensures.reply
