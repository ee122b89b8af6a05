use Rattle.query_lang.proofs.Deciding.{agreeing, matches-same, score-same}
use Rattle.query_lang.proofs.laws.words_decide.Goals as goal

pub returns-clause-matches : goal.returns-clause-matches
returns-clause-matches c = λ q f g h. matches-same f g q (agreeing f g q h)

pub returns-clause-score : goal.returns-clause-score
returns-clause-score c = λ q f g h. score-same f g q h
