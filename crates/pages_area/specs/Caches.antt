-- A cache: pages that are kept with what was read of them, the most recently used first.
use Rattle.std.specs.Prelude.{◌≡◌, ◌≢◌, ℕ, ◌+◌, ◌*◌, ◌≤◌, ◌==◌, Bool, false, not, ◌&&◌, if◌then◌else◌, IsTrue, List, [], ◌∷◌, length, take, drop, All, AllPairs, Contains}
use Rattle.std.specs.List.{filter, list_any}

-- a page that is kept, with its piece: the bytes that were read of it
pub record Kept : Type 0 where
  pub page : ℕ
  pub bytes : List ℕ

-- asking for so many bytes of a page is a hit where the page is kept with a piece of that length
abbrev pub is_hit : ℕ → ℕ → List Kept → Bool
is_hit page size cache = list_any (λ k. (page == k.page) && (size == length k.bytes)) cache

-- no page is kept twice
abbrev pub AreDistinct : List Kept → Type 0
AreDistinct cache = AllPairs (λ j k. j.page ≢ k.page) cache

-- the kept pages but for one
abbrev pub without_page : ℕ → List Kept → List Kept
without_page page cache = filter (λ k. not (page == k.page)) cache

-- The cache after asking for a page, which gave this piece, where at most so many pages are kept: hit or miss, the page goes to the
-- front, and those at the end leave.
abbrev pub after_asking_within : ℕ → Kept → List Kept → List Kept
after_asking_within most k cache = take most (k ∷ without_page k.page cache)

-- 1,024 pages are kept at most
abbrev pub after_asking : Kept → List Kept → List Kept
after_asking k cache = after_asking_within 1024 k cache

-- how many bytes are read for asking, which gives this piece: none at a hit, and at a miss the piece
abbrev pub missed : Kept → List Kept → ℕ
missed k cache = if is_hit k.page (length k.bytes) cache then 0 else length k.bytes

-- the cache after asking for pages in turn, which gave these pieces
abbrev pub after_asking_all : List Kept → List Kept → List Kept
after_asking_all [] cache = cache
after_asking_all (k ∷ ks) cache = after_asking_all ks (after_asking k cache)

-- how many bytes are read for them
abbrev pub missed_by_all : List Kept → List Kept → ℕ
missed_by_all [] cache = 0
missed_by_all (k ∷ ks) cache = missed k cache + missed_by_all ks (after_asking k cache)

-- the piece is of one page at most, and is what Pages holds there
pub record IsHeld (pages : List ℕ) (k : Kept) : Type 0 where
  pub within : length k.bytes ≤ 4096
  pub bytes : k.bytes ≡ take (length k.bytes) (drop (k.page * 4096) pages)

-- a cache stands for Pages where each kept piece is what Pages holds there
abbrev pub StandsFor : List Kept → List ℕ → Type 0
StandsFor cache pages = All (IsHeld pages) cache

-- Asking for a page gives this piece: at a hit the one that is kept, and at a miss what Pages holds there.
pub record IsGiven (pages : List ℕ) (cache : List Kept) (k : Kept) : Type 0 where
  pub hit : IsTrue (is_hit k.page (length k.bytes) cache) → Contains cache k
  pub miss : is_hit k.page (length k.bytes) cache ≡ false → IsHeld pages k

-- asking for pages in turn gives these pieces
abbrev pub AreGiven : List ℕ → List Kept → List Kept → Type 0
AreGiven pages cache [] = Unit {0}
AreGiven pages cache (k ∷ ks) = IsGiven pages cache k × AreGiven pages (after_asking k cache) ks
