use Rattle.plans_space.proofs.ShortLemmas.{short}
use Rattle.plans_space.proofs.laws.eligible_is_short.Goals as goal

pub returns : goal.returns
returns c = short
