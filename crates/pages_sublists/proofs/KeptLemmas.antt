-- Where the pages lie that are kept.
use Rattle.std.proofs.Common.{List, [], ◌∷◌, ◌++◌, All}
use Rattle.std.proofs.lemmas.List.Elements.{All-weaker}
use Rattle.base_types.specs.declared.extent.Extent.{Extent}
use Rattle.pages_area.specs.Runs.{IsTaken}
use Rattle.pages_area.specs.Taken.{AreApart}
use Rattle.pages_area.proofs.StayLemmas.{taken_right, apart_parts}
use Rattle.pages_area.specs.Caches.{Kept}
use Rattle.pages_area.specs.Pieces.{without_pages}
use Rattle.pages_area.specs.CacheLaws.{LieIn}
use Rattle.pages_area.proofs.CacheLawLemmas.{left-in-rest}
use Rattle.pages_sublists.specs.Caching.{without_all}

-- what is kept lies in some extents, so no page of others apart from them is kept
pub kept_apart : (new old : List Extent) (cache : List Kept) → AreApart (new ++ old) → LieIn old cache → All (λ (k : Kept). IsTaken new k.page → ⊥) cache
kept_apart new old cache apart lie =
    All-weaker (λ (k : Kept). IsTaken old k.page) (λ (k : Kept). IsTaken new k.page → ⊥) (λ k mine yours. (apart_parts new old apart).0 k.page yours mine) cache lie

-- what lies in some extents lies in these and others
pub lie_behind : (new old : List Extent) (cache : List Kept) → LieIn old cache → LieIn (new ++ old) cache
lie_behind new old cache lie = All-weaker (λ (k : Kept). IsTaken old k.page) (λ (k : Kept). IsTaken (new ++ old) k.page) (λ k taken. taken_right new old k.page taken) cache lie

-- and in the rest, once the pages of some of them are kept no longer
pub lie_without : (before these after : List Extent) (cache : List Kept) → LieIn (before ++ (these ++ after)) cache → LieIn (before ++ after) (without_all these cache)
lie_without before [] after cache lie = lie
lie_without before (e ∷ these) after cache lie = lie_without before these after (without_pages e cache) (left-in-rest before (these ++ after) e cache lie)
