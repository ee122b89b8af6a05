use Rattle.std.specs.Prelude.{◌≡◌, true}
use Rattle.query_eval.proofs.GivenLemmas.{one_answer}
use Rattle.query_eval.proofs.laws.an_answer_is_one.Goals as goal

pub returns : goal.returns
returns c = λ is_alive often query one other a b. one_answer (λ doc. is_alive doc ≡ true) often query one other a b
