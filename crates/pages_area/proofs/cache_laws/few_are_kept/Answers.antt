use Rattle.std.proofs.Common.{arith}
use Rattle.std.proofs.lemmas.List.{length-take}
use Rattle.pages_area.specs.Caches.{without_page}
use Rattle.pages_area.proofs.CacheLemmas.{distinct-asking}
use Rattle.pages_area.proofs.cache_laws.few_are_kept.Goals as goal

pub returns : goal.returns
returns c = λ k cache distinct. (distinct-asking 1024 k cache distinct, omega (arith, length-take 1023 (without_page k.page cache)))
