use Rattle.std.proofs.Common.{take, refl}
use Rattle.pages_area.specs.Caches.{without_page}
use Rattle.pages_area.proofs.cache_laws.asked_is_first.Goals as goal

pub returns : goal.returns
returns c = λ k cache. (take 1023 (without_page k.page cache), refl)
