use Rattle.pages_sublists.proofs.OneGathering.{one_gathering}
use Rattle.pages_sublists.proofs.laws.one_gathering.Goals as goal

pub returns : goal.returns
returns c = one_gathering
