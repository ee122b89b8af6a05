use Rattle.std.proofs.Common.{length, ap, arith}
use Rattle.query_eval.proofs.FirstLemmas.{wanted-weaker}
use Rattle.query_eval.proofs.FoundLemmas.{answer-is}
use Rattle.query_eval.proofs.GivenLemmas.{same_alive}
use Rattle.query_eval.proofs.found.answer_over.Goals as goal

pub answer_of-requires : goal.answer_of-requires
answer_of-requires g c = omega (arith, c.requires.many, c.words.ensures.few, ap length c.words.ensures.words)

pub returns-clause-rows : goal.returns-clause-rows
returns-clause-rows g c = λ alive tells often tell.
    let made = c.in_ok-rows.ensures alive tells in
    wanted-weaker c.args.wanted _ (λ all is. same_alive _ _ often c.args.query.now all made.had (answer-is made.docs often c.args.query.now c.in_ok-rows.rows.items all (made.rows often tell) is)) c.in_ok-answer.ensures.rows
