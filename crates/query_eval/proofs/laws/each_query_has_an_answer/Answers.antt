use Rattle.query_eval.proofs.FoundLemmas.{each-answer}
use Rattle.query_eval.proofs.laws.each_query_has_an_answer.Goals as goal

pub returns : goal.returns
returns c = each-answer
