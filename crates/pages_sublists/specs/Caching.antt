-- A store in hand, and the pieces of the pages that its questions ask for.
use Rattle.std.specs.Prelude.{ℕ, List, [], ◌∷◌}
use Rattle.std.specs.List.{flat_map}
use Rattle.base_types.specs.declared.extent.Extent.{Extent}
use Rattle.pages_area.specs.Ranges.{bytes_in}
use Rattle.pages_area.specs.Taken.{PagesState}
use Rattle.pages_area.specs.Caches.{Kept}
use Rattle.pages_area.specs.Pieces.{pieces, without_pages}
use Rattle.pages_sublists.specs.Gathering.{Chosen}

-- a store in hand: which pages are free, and the pages that are kept
pub record SublistsState : Type 0 where
  pub pages : PagesState
  pub cache : List Kept

-- the pieces of an extent's pages, as Pages hold them
abbrev pub pieces_at : List ℕ → Extent → List Kept
pieces_at pages e = pieces e.first (bytes_in e pages)

-- the pieces of the pages of some segments' places, one segment after another
abbrev pub pieces_of_all : List ℕ → List Chosen → List Kept
pieces_of_all pages segments = flat_map (λ c. pieces_at pages c.place.extent) segments

-- the kept pages but for those of some extents
abbrev pub without_all : List Extent → List Kept → List Kept
without_all [] cache = cache
without_all (e ∷ extents) cache = without_all extents (without_pages e cache)
