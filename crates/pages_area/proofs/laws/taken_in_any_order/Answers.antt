use Rattle.pages_area.proofs.OrderLemmas.{taken_swaps}
use Rattle.pages_area.proofs.laws.taken_in_any_order.Goals as goal

pub returns : goal.returns
returns c = taken_swaps
