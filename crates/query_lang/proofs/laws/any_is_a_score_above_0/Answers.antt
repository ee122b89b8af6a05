use Rattle.query_lang.proofs.ChainLaws.{any_scores, any_weighs}
use Rattle.query_lang.proofs.laws.any_is_a_score_above_0.Goals as goal

pub returns-clause-matches : goal.returns-clause-matches
returns-clause-matches c = λ text q read any f. any_scores text q any read f

pub returns-clause-weights : goal.returns-clause-weights
returns-clause-weights c = λ text q read any. any_weighs text q any read
