use Rattle.lists_tails.proofs.Followed.{tails_of_acts}
use Rattle.lists_tails.proofs.laws.tails_of_acts.Goals as goal

pub returns : goal.returns
returns c = tails_of_acts
