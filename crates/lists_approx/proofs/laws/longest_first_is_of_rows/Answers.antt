use Rattle.lists_approx.proofs.Alike.{longest_first_alike}
use Rattle.lists_approx.proofs.laws.longest_first_is_of_rows.Goals as goal

pub returns : goal.returns
returns c = longest_first_alike
