use Rattle.model_archive.specs.Steps.{Approximates, Approximated}
use Rattle.archive_questions.specs.declared.approximating.Approximation.{Approximation}
use Rattle.archive_questions.proofs.TakeLemmas.{told_by}
use Rattle.archive_questions.proofs.approximating.approx.Goals as goal

pub returns-clause-by_reads : goal.returns-clause-by_reads
returns-clause-by_reads c = λ d s in_step.
    told_by (λ (a : Approximation). Approximated a.short.items a.full) (Approximates s.history c.args.word.now c.args.tolerance) s _ c.approx_phrase.result d c.args.archive.now (λ reply next same is. (same, is)) in_step
    (c.approx_phrase.ensures.refused s.history in_step.stands) (c.approx_phrase.ensures.approximates s.history in_step.stands)
