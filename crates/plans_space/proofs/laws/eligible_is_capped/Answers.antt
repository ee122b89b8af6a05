use Rattle.plans_space.proofs.CapLemmas.{capped}
use Rattle.plans_space.proofs.laws.eligible_is_capped.Goals as goal

pub returns : goal.returns
returns c = capped
