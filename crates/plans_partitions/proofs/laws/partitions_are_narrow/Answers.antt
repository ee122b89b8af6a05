use Rattle.plans_partitions.proofs.Narrow.{narrow}
use Rattle.plans_partitions.proofs.laws.partitions_are_narrow.Goals as goal

pub returns : goal.returns
returns c = narrow
