use Rattle.pages_area.proofs.CacheLawLemmas.{asked-in-taken}
use Rattle.pages_area.proofs.cache_laws.asked_lie_in_taken.Goals as goal

pub returns : goal.returns
returns c = asked-in-taken
