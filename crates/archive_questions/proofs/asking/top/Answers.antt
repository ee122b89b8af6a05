use Rattle.archive_questions.proofs.AskedLemmas.{top_by}
use Rattle.archive_questions.proofs.asking.top.Goals as goal

pub returns-clause-by_reads : goal.returns-clause-by_reads
returns-clause-by_reads g c = λ tells s in_step.
    let after = rw c.number.ensures.value at c.ask.ensures.after in
    top_by s c.args.count c.args.at c.args.expr.now c.ask.result _ _ c.args.archive.now c.ask.new.archive tells in_step after
