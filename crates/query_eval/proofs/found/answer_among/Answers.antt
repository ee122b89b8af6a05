use Rattle.std.proofs.Common.{length, ap, arith}
use Rattle.query_eval.proofs.FirstLemmas.{wanted-weaker}
use Rattle.query_eval.proofs.FoundLemmas.{answer-is}
use Rattle.query_eval.proofs.found.answer_among.Goals as goal

pub answer_of-requires : goal.answer_of-requires
answer_of-requires c = omega (arith, c.requires.many, c.words.ensures.few, ap length c.words.ensures.words)

pub returns-clause-rows : goal.returns-clause-rows
returns-clause-rows c = λ often tell.
    wanted-weaker c.args.wanted _ (λ all is. answer-is c.args.alive.now often c.args.query.now c.in_ok-rows.rows.items all (c.in_ok-rows.ensures often tell) is) c.in_ok-answer.ensures.rows
