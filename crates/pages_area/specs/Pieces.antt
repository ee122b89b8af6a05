-- The bytes of an extent or a place, page by page.
use Rattle.std.specs.Prelude.{ℕ, ◌+◌, ◌-◌, ◌*◌, min, not, ◌&&◌, nat_le, nat_lt, List, length, take, drop, map}
use Rattle.std.specs.List.{filter, range_with_len}
use Rattle.base_types.specs.declared.extent.Extent.{Extent}
use Rattle.pages_area.specs.Runs.{pages_for}
use Rattle.pages_area.specs.Caches.{Kept}

-- of so many bytes the page of this index has so many
abbrev pub piece_size : ℕ → ℕ → ℕ
piece_size bytes index = min 4096 (bytes - 4096 * index)

-- of bytes that begin with a page, the piece of the page of this index
abbrev pub piece : ℕ → List ℕ → ℕ → Kept
piece first bytes index = record { page = first + index; bytes = take 4096 (drop (4096 * index) bytes) }

-- the pieces of the first pages
abbrev pub first_pieces : ℕ → ℕ → List ℕ → List Kept
first_pieces count first bytes = map (piece first bytes) (range_with_len 0 count)

-- the pieces of all pages
abbrev pub pieces : ℕ → List ℕ → List Kept
pieces first bytes = first_pieces (pages_for (length bytes)) first bytes

-- the kept pages but for so many from one on
abbrev pub without_run : ℕ → ℕ → List Kept → List Kept
without_run first count cache = filter (λ k. not (nat_le first k.page && nat_lt k.page (first + count))) cache

-- the kept pages but for those of an extent
abbrev pub without_pages : Extent → List Kept → List Kept
without_pages e cache = without_run e.first (pages_for e.bytes) cache
