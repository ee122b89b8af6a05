use Rattle.std.proofs.Common.{◌∙◌}
use Rattle.query_eval.proofs.FirstLemmas.{wanted-all}
use Rattle.archive_questions.proofs.RoughLemmas.{short_alive}
use Rattle.archive_questions.proofs.approximating.rough_answer_by.Goals as goal

pub returns : goal.returns
returns c = λ h pages stands chosen.
    let short = c.in_ok-shorts.ensures in
    let shorts = c.in_ok-shorts.shorts.items in
    let rows = c.in_ok-answer.ensures.rows h stands (rw c.deref.ensures.value (short_alive h pages c.args.tolerance c.args.at.seconds _ c.args.parts.now shorts c.args.at.before_now chosen short.short)) in
    record {
      parts = c.args.parts.now;
      are_chosen = chosen;
      shorts = shorts;
      are_short = short.short;
      rows_are = rw (c.deref.ensures.value) at (wanted-all _ c.in_ok-answer.answer.rows.items rows);
      read_is = rw (c.deref.ensures.value) at c.in_ok-answer.ensures.read ∙ short.read;
    }
