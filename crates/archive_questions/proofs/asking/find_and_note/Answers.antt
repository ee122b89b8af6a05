use Rattle.std.proofs.Common.{◌≡◌, Result, Err, refl, ap, sym, ◌∙◌}
use Rattle.query_eval.proofs.FirstLemmas.{wanted-all}
use Rattle.query_eval.specs.declared.answer.Answer.{Answer}
use Rattle.query_eval.specs.declared.answer.Wanted.TheVariants as wanted
use Rattle.query_lang.specs.Grammar.{Query}
use Rattle.model_archive.specs.Chosen.{IsMadeAt}
use Rattle.model_archive.specs.Histories.{History}
use Rattle.archive_questions.specs.Answering.{IsWantedAt}
use Rattle.archive_questions.specs.Causes.{asked_of}
use Rattle.archive_questions.specs.declared.error.AskError.{AskError}
use Rattle.archive_questions.proofs.AskedLemmas.{after_fetching, after_weaker}
use Rattle.archive_questions.proofs.asking.find_and_note.Goals as goal

pub returns-in-Err-clause-after : goal.returns-in-Err-clause-after
returns-in-Err-clause-after g c = λ phrase read.
    let made = c.answer_of.ensures in
    let r : Result Answer AskError = Err c.from.result in
    let is : r ≡ asked_of c.answer_of.result = ap Err c.from.ensures ∙ ap asked_of (sym c.in-Err.is) in
    let pages = (g.D.Disk.disk c.args.disk.now).holds.pages in
    let IsMade : History → Query → Answer → Type 0 = λ h q answer. IsWantedAt wanted.All h pages c.args.at.seconds q answer.rows.items answer.read in
    record {
      answered = c.answer_of.new.archive;
      after = after_weaker _ _ _ _ _ _ r _ _ _ _ (λ h query answer is. wanted-all (λ rows. IsMadeAt h pages c.args.at.seconds query rows answer.read) answer.rows.items is) (after_fetching _ phrase phrase _ _ IsMade c.args.query.now r c.answer_of.result _ _ _ _ refl read is made.after made.fetched);
      noted = refl;
    }
