use Rattle.pages_area.proofs.CacheLawLemmas.{writes-stand}
use Rattle.pages_area.proofs.cache_laws.writes_apart_stand.Goals as goal

pub returns : goal.returns
returns c = writes-stand
