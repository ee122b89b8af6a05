use Rattle.lists_postings.proofs.Longest.{one}
use Rattle.query_eval.specs.Spans.{row_kind, scored_at}
use Rattle.query_eval.proofs.SpanRows.{plain-rows}
use Rattle.query_eval.proofs.span_laws.a_span_answer_is_one.Goals as goal

pub returns : goal.returns
returns c = λ alive often query. one row_kind plain-rows (scored_at alive often query)
