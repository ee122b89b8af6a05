use Rattle.lists_postings.proofs.Longest.{exactly}
use Rattle.query_eval.specs.Spans.{row_kind, scored_at}
use Rattle.query_eval.proofs.SpanRows.{plain-rows}
use Rattle.query_eval.proofs.span_laws.span_rows_are_the_longest.Goals as goal

pub returns : goal.returns
returns c = λ alive often query. exactly row_kind plain-rows (scored_at alive often query)
