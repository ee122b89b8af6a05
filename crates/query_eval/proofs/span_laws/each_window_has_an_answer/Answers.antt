use Rattle.query_eval.proofs.SpanRows.{each-window}
use Rattle.query_eval.proofs.span_laws.each_window_has_an_answer.Goals as goal

pub returns : goal.returns
returns c = each-window
