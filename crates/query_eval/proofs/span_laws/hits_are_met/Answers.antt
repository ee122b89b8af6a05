use Rattle.query_eval.proofs.MetLemmas.{hits_are_met}
use Rattle.query_eval.proofs.span_laws.hits_are_met.Goals as goal

pub returns : goal.returns
returns c = hits_are_met
