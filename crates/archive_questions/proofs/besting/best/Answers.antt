use Rattle.std.proofs.Common.{Err, Ok, ap, subst, sym, ◌∙◌}
use Rattle.query_lang.specs.Grammar.{IsRead}
use Rattle.query_lang.specs.Tokens.{term_of}
use Rattle.query_lang.specs.Chains.{asks_for_any}
use Rattle.query_lang.proofs.ChainLaws.{any_weighs}
use Rattle.archive_questions.proofs.BestStepLemmas.{found-by, no-chain-by, query-error-by, starved-by}
use Rattle.archive_questions.proofs.besting.best.Goals as goal

pub best_of-requires-clause-weights : goal.best_of-requires-clause-weights
best_of-requires-clause-weights g c =
    any_weighs c.args.expr.now c.in-Ok.query (sym (c.in-Ok-true.ensures ∙ ap asks_for_any c.as_str-in-Ok.ensures.value) ∙ c.in-Ok-true.field-0-test) (subst (λ t. IsRead term_of t (Ok c.in-Ok.query)) c.as_str.ensures.value c.in-Ok.ensures.query)

pub returns-in-Ok-true-clause-by_reads : goal.returns-in-Ok-true-clause-by_reads
returns-in-Ok-true-clause-by_reads g c = λ tells s in_step.
    found-by s c.args.count c.args.at c.args.expr.now (g.D.Disk.disk c.args.disk.now) c.args.archive.now in_step c.in-Ok.query c.asked.result c.best_of.result (g.D.Disk.disk c.best_of.new.disk) c.best_of.new.archive tells
    (sym (c.in-Ok-true.ensures ∙ ap asks_for_any c.as_str-in-Ok.ensures.value) ∙ c.in-Ok-true.field-0-test) (subst (λ t. IsRead term_of t (Ok c.in-Ok.query)) c.as_str.ensures.value c.in-Ok.ensures.query) c.asked.ensures c.best_of.ensures.after c.best_of.ensures.found

pub returns-in-Ok-false-clause-by_reads : goal.returns-in-Ok-false-clause-by_reads
returns-in-Ok-false-clause-by_reads g c = λ tells s in_step.
    no-chain-by s c.args.count c.args.at c.args.expr.now (g.D.Disk.disk c.args.disk.now) c.args.archive.now in_step c.in-Ok.query (sym (c.in-Ok-false.ensures ∙ ap asks_for_any c.as_str-in-Ok.ensures.value) ∙ c.in-Ok-false.field-0-test)
    (subst (λ t. IsRead term_of t (Ok c.in-Ok.query)) c.as_str.ensures.value c.in-Ok.ensures.query)

pub returns-in-Ok-clause-by_reads : goal.returns-in-Ok-clause-by_reads
returns-in-Ok-clause-by_reads g c = λ tells s in_step. starved-by s c.args.count c.args.at c.args.expr.now (g.D.Disk.disk c.args.disk.now) c.args.archive.now in_step

pub returns-clause-by_reads : goal.returns-clause-by_reads
returns-clause-by_reads g c = λ tells s in_step.
    query-error-by s c.args.count c.args.at c.args.expr.now (g.D.Disk.disk c.args.disk.now) c.args.archive.now in_step c.in-Err.why c.from.result c.from.ensures
    (λ place is. subst (λ t. IsRead term_of t (Err place)) c.as_str.ensures.value (c.in-Err.ensures.bad place (ap (λ e. Err e) is)))
