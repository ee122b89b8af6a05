use Rattle.query_eval.proofs.SpanRows.{only_hits_over}
use Rattle.query_eval.proofs.span_laws.only_hits_matter_over.Goals as goal

pub returns : goal.returns
returns c = only_hits_over
