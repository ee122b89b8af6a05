use Rattle.pages_area.proofs.CacheLawLemmas.{left-in-rest}
use Rattle.pages_area.proofs.cache_laws.left_lie_in_rest.Goals as goal

pub returns : goal.returns
returns c = left-in-rest
