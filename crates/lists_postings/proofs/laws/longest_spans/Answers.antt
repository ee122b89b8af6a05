use Rattle.lists_postings.proofs.Spans.{longest_spans}
use Rattle.lists_postings.proofs.laws.longest_spans.Goals as goal

pub returns : goal.returns
returns c = longest_spans
