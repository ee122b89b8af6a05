-- What holds of caches, whatever is asked.
use Rattle.std.specs.Prelude.{◌≡◌, ℕ, ◌+◌, ◌≤◌, List, [], ◌∷◌, ◌++◌, length, map, All}
use Rattle.base_types.specs.declared.extent.Extent.{Extent}
use Rattle.pages_area.specs.Ranges.{SameOutside, range_of}
use Rattle.pages_area.specs.Runs.{IsPageOf, IsTaken, pages_for}
use Rattle.pages_area.specs.Caches.{Kept, AreDistinct, after_asking, after_asking_all, missed, missed_by_all, IsHeld, IsGiven, StandsFor}
use Rattle.pages_area.specs.Pieces.{first_pieces, without_pages}

-- the page that was asked for is first
abbrev pub AskedIsFirst : Type 0
AskedIsFirst = (k : Kept) (cache : List Kept) → (rest : List Kept) × (after_asking k cache ≡ k ∷ rest)

-- asking twice in a row misses once at most
abbrev pub AskedTwiceMissesOnce : Type 0
AskedTwiceMissesOnce = (k : Kept) (cache : List Kept) → missed_by_all (k ∷ k ∷ []) cache ≡ missed k cache

-- asking keeps 1,024 pages at most, and none twice
abbrev pub FewAreKept : Type 0
FewAreKept = (k : Kept) (cache : List Kept) → AreDistinct cache → AreDistinct (after_asking k cache)
    × (length (after_asking k cache) ≤ 1024)

-- asking for some pages and then for others is asking for all of them
abbrev pub AskingsJoin : Type 0
AskingsJoin = (ks ls : List Kept) (cache : List Kept)
    → (after_asking_all (ks ++ ls) cache ≡ after_asking_all ls (after_asking_all ks cache))
    × (missed_by_all (ks ++ ls) cache ≡ missed_by_all ks cache + missed_by_all ls (after_asking_all ks cache))

-- each page with the length of its piece
abbrev pub sizes_of : List Kept → List (ℕ × ℕ)
sizes_of ks = map (λ k. (k.page, length k.bytes)) ks

-- what is missed is so by pages and lengths alone
abbrev pub MissesAreBySizes : Type 0
MissesAreBySizes = (ks ls : List Kept) (cache other : List Kept) → sizes_of ks ≡ sizes_of ls → sizes_of cache ≡ sizes_of other
    → missed_by_all ks cache ≡ missed_by_all ls other

-- a cache that stands for Pages gives what Pages holds, and goes on standing for it
abbrev pub AskingStands : Type 0
AskingStands = (k : Kept) (cache : List Kept) (pages : List ℕ) → StandsFor cache pages → IsGiven pages cache k
    → IsHeld pages k × StandsFor (after_asking k cache) pages

-- and so it does while only extents are written that have none of its pages
abbrev pub WritesApartStand : Type 0
WritesApartStand = (cache : List Kept) (extents : List Extent) (was pages : List ℕ) → All (λ k. IsTaken extents k.page → ⊥) cache
    → SameOutside (map range_of extents) was pages → StandsFor cache was → StandsFor cache pages

-- pages that are given back are kept no longer, and the others stand as they did
abbrev pub GivenBackLeave : Type 0
GivenBackLeave = (e : Extent) (cache : List Kept) (pages : List ℕ) → All (λ k. IsPageOf e k.page → ⊥) (without_pages e cache)
    × (StandsFor cache pages → StandsFor (without_pages e cache) pages)

-- each kept page is one of these extents'
abbrev pub LieIn : List Extent → List Kept → Type 0
LieIn extents cache = All (λ k. IsTaken extents k.page) cache

-- where the pages of an extent among them are asked for, all of them or the first ones
abbrev pub AskedLieInTaken : Type 0
AskedLieInTaken = (extents : List Extent) (e : Extent) (n : ℕ) (bytes : List ℕ) (cache : List Kept)
    → ((p : ℕ) → IsPageOf e p → IsTaken extents p)
    → n ≤ pages_for e.bytes → LieIn extents cache → LieIn extents (after_asking_all (first_pieces n e.first bytes) cache)

-- and where the pages of one of them are given back
abbrev pub LeftLieInRest : Type 0
LeftLieInRest = (before after : List Extent) (e : Extent) (cache : List Kept) → LieIn (before ++ e ∷ after) cache
    → LieIn (before ++ after) (without_pages e cache)
