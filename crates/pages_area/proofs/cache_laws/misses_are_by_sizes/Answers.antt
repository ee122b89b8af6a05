use Rattle.pages_area.proofs.SizeLemmas.{missed-sizes}
use Rattle.pages_area.proofs.cache_laws.misses_are_by_sizes.Goals as goal

pub returns : goal.returns
returns c = missed-sizes
