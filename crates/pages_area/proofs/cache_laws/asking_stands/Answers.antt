use Rattle.pages_area.specs.Caches.{IsHeld}
use Rattle.pages_area.proofs.CacheLemmas.{all-asked, given-held}
use Rattle.pages_area.proofs.cache_laws.asking_stands.Goals as goal

pub returns : goal.returns
returns c = λ k cache pages stands given. (given-held k cache pages stands given, all-asked (IsHeld pages) 1024 k cache (given-held k cache pages stands given) stands)
