use Rattle.lists_approx.proofs.One.{one_longest_first}
use Rattle.lists_approx.proofs.laws.one_longest_first.Goals as goal

pub returns : goal.returns
returns c = one_longest_first
