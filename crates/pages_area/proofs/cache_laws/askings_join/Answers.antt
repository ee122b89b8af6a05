use Rattle.pages_area.proofs.CacheLawLemmas.{askings-join, misses-join}
use Rattle.pages_area.proofs.cache_laws.askings_join.Goals as goal

pub returns : goal.returns
returns c = λ ks ls cache. (askings-join ks ls cache, misses-join ks ls cache)
