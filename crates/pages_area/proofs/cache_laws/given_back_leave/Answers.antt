use Rattle.std.proofs.lemmas.List.Elements.{All-filter}
use Rattle.pages_area.specs.Caches.{IsHeld}
use Rattle.pages_area.proofs.CacheLawLemmas.{left-are-apart}
use Rattle.pages_area.proofs.cache_laws.given_back_leave.Goals as goal

pub returns : goal.returns
returns c = λ e cache pages. (left-are-apart e cache, All-filter _ (IsHeld pages) cache)
