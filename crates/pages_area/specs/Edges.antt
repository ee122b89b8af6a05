-- The edges at which free and taken pages meet: from page 0 on pages are free up to the first edge, taken up to the second, and so on.
use Rattle.std.specs.Prelude.{◌≡◌, ℕ, ◌+◌, ◌-◌, ◌%◌, ◌<◌, ◌≤◌, ◌^◌, List, length, slice_index, slice_index_or, cond, count_by, nat_le}
use Rattle.base_types.specs.declared.extent.Extent.{Extent}
use Rattle.pages_area.specs.Runs.{pages_for}

-- how many edges lie at a page or before it
abbrev pub edges_to : List ℕ → ℕ → ℕ
edges_to edges p = count_by (λ e. nat_le e p) edges

-- what one edge adds to this
abbrev pub step : ℕ → ℕ → ℕ
step p e = cond (nat_le e p) 1 0

-- the page is below the limit, and an even number of edges leads to it
abbrev pub IsFree : List ℕ → ℕ → Type 0
IsFree edges p = (p < 2 ^ 28) × (edges_to edges p % 2 ≡ 0)

-- edges in ascending order, no two at one page
pub record AreEdges (edges : List ℕ) : Type 0 where
  pub rise : (i j : ℕ) → i < j → j < length edges → slice_index edges i < slice_index edges j
  pub limit : (i : ℕ) → i < length edges → slice_index edges i ≤ 2 ^ 28

-- the edge at a place, or the end of all pages
abbrev pub edge : List ℕ → ℕ → ℕ
edge edges i = slice_index_or edges i (2 ^ 28)

-- n pages from one on are free
abbrev pub AreFree : List ℕ → ℕ → ℕ → Type 0
AreFree edges first n = (p : ℕ) → first ≤ p → p < first + n → edges_to edges p % 2 ≡ 0

-- n free pages in a row begin no earlier than at this one
abbrev pub BeginNoEarlier : ℕ → List ℕ → ℕ → Type 0
BeginNoEarlier n edges first = (other : ℕ) → other + n ≤ 2 ^ 28 → AreFree edges other n → first ≤ other

-- these are the lowest n free pages in a row
pub record IsFit (n : ℕ) (edges : List ℕ) (first : ℕ) : Type 0 where
  pub below : first + n ≤ 2 ^ 28
  pub free : AreFree edges first n
  pub lowest : BeginNoEarlier n edges first

-- there are none
abbrev pub HasNoFit : ℕ → List ℕ → Type 0
HasNoFit n edges = (other : ℕ) → other + n ≤ 2 ^ 28 → AreFree edges other n → ⊥

-- 1 where the page is one of an extent's, as an edge at its first page leads there and one behind its last doesn't; otherwise 0
abbrev pub holds : ℕ → Extent → ℕ
holds p e = step p e.first - step p (e.first + pages_for e.bytes)

-- of the pages of an extent those that were free are taken, and the other way round; and nothing else changed
abbrev pub IsTurned : Extent → List ℕ → List ℕ → Type 0
IsTurned e old new = (p : ℕ) → edges_to new p % 2 ≡ (edges_to old p + holds p e) % 2
