use Rattle.lists_approx.proofs.Cut.{longest-first-fewest}
use Rattle.lists_approx.proofs.laws.longest_first_is_fewest.Goals as goal

pub returns : goal.returns
returns c = longest-first-fewest
