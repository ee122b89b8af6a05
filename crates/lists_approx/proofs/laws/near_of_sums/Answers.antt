use Rattle.lists_approx.proofs.Near.{near_weighted, near_sum}
use Rattle.lists_approx.proofs.laws.near_of_sums.Goals as goal

pub returns : goal.returns
returns c = λ tolerance. (near_weighted tolerance, near_sum tolerance)
