use Rattle.plans_space.proofs.FunctionLemmas.{by_function}
use Rattle.plans_space.proofs.laws.weights_of_a_function.Goals as goal

pub returns : goal.returns
returns g c = by_function _
