use Rattle.plans_share.proofs.Small.{costs_small}
use Rattle.plans_share.proofs.laws.counted_costs_are_small.Goals as goal

pub returns : goal.returns
returns c = costs_small
