use Rattle.plans_partitions.proofs.Ordering.{one_list_of_boundaries}
use Rattle.plans_partitions.proofs.laws.one_list_of_boundaries.Goals as goal

pub returns : goal.returns
returns c = one_list_of_boundaries
