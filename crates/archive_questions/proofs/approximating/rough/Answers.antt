use Rattle.archive_questions.proofs.AskedLemmas.{rough_by}
use Rattle.archive_questions.proofs.approximating.rough.Goals as goal

pub returns-clause-by_reads : goal.returns-clause-by_reads
returns-clause-by_reads g c = λ tells s in_step. rough_by s c.args.tolerance c.args.at c.args.expr.now c.ask_roughly.result _ _ c.args.archive.now c.ask_roughly.new.archive tells in_step c.ask_roughly.ensures.after
