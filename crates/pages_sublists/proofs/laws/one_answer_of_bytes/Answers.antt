use Rattle.pages_sublists.proofs.OneGathering.{one_cause, no_cause, one_fetched}
use Rattle.pages_sublists.proofs.laws.one_answer_of_bytes.Goals as goal

pub returns : goal.returns
returns c = record { cause = one_cause; none = no_cause; list = one_fetched }
