use Rattle.std.proofs.Common.{◌+◌, arith}
use Rattle.model_archive.proofs.ChosenLemmas.{unplanned_alive}
use Rattle.archive_questions.proofs.asking.answer_by.Goals as goal

pub returns-clause-rows : goal.returns-clause-rows
returns-clause-rows c = λ h pages stands chosen.
    let t = c.args.at.seconds in
    let now = c.args.at.before_now in
    c.answer_with.ensures.rows h stands (λ none doc hit. unplanned_alive h pages t (t + 1) t _ c.args.parts.now doc (omega (arith, now)) none chosen (omega arith) (omega arith) hit)
