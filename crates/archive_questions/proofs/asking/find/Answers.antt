use Rattle.std.proofs.Common.{subst, List, ℕ, Ok, refl}
use Rattle.query_lang.specs.Grammar.{IsRead}
use Rattle.query_lang.specs.Tokens.{term_of}
use Rattle.archive_questions.proofs.AskedLemmas.{after_no_query, find_by}
use Rattle.archive_questions.proofs.asking.find.Goals as goal

pub returns-in-Ok-clause-after : goal.returns-in-Ok-clause-after
returns-in-Ok-clause-after g c =
    let read = subst (λ (text : List ℕ). IsRead term_of text (Ok c.in-Ok.query)) c.as_str.ensures.value c.in-Ok.ensures.query in
    c.find_and_note.ensures.after c.args.expr.now read

pub returns-in-Ok-clause-by_reads : goal.returns-in-Ok-clause-by_reads
returns-in-Ok-clause-by_reads g c = λ tells s in_step. find_by s c.args.at c.args.expr.now c.find_and_note.result _ _ c.args.archive.now c.find_and_note.new.archive tells in_step (returns-in-Ok-clause-after g c)

pub returns-in-Err-clause-after : goal.returns-in-Err-clause-after
returns-in-Err-clause-after g c = record {
  answered = c.args.archive.now;
  after = after_no_query _ _ _ _ _ _ c.from.result c.in-Err.why _ _ c.as_str.ensures.value c.from.ensures c.in-Err.ensures.bad;
  noted = refl;
}

pub returns-in-Err-clause-by_reads : goal.returns-in-Err-clause-by_reads
returns-in-Err-clause-by_reads g c = λ tells s in_step. find_by s c.args.at c.args.expr.now _ _ _ c.args.archive.now c.args.archive.now tells in_step (returns-in-Err-clause-after g c)
