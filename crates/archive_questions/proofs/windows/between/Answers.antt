use Rattle.std.proofs.Common.{Err}
use Rattle.archive_questions.proofs.AskedLemmas.{after_fetching, after_no_query, between_by}
use Rattle.archive_questions.proofs.windows.between.Goals as goal

pub returns-in-Err-clause-after : goal.returns-in-Err-clause-after
returns-in-Err-clause-after g c = after_no_query _ _ _ _ _ _ c.from.result c.in-Err.why _ _ c.as_str.ensures.value c.from.ensures c.in-Err.ensures.bad

pub returns-in-Ok-clause-after : goal.returns-in-Ok-clause-after
returns-in-Ok-clause-after g c =
    let made = c.span_answer_of.ensures in
    after_fetching _ _ _ _ _ _ c.in-Ok.query c.asked.result c.span_answer_of.result _ _ _ _ c.as_str.ensures.value c.in-Ok.ensures.query c.asked.ensures made.after made.fetched

pub returns-in-Err-clause-by_reads : goal.returns-in-Err-clause-by_reads
returns-in-Err-clause-by_reads g c = λ tells s in_step. between_by s c.args.span c.args.expr.now (Err c.from.result) _ _ c.args.archive.now c.args.archive.now tells in_step (returns-in-Err-clause-after g c)

pub returns-in-Ok-clause-by_reads : goal.returns-in-Ok-clause-by_reads
returns-in-Ok-clause-by_reads g c = λ tells s in_step. between_by s c.args.span c.args.expr.now c.asked.result _ _ c.args.archive.now c.span_answer_of.new.archive tells in_step (returns-in-Ok-clause-after g c)
