-- Sublists that are to be written: their bytes and their places.
use Rattle.std.specs.Prelude.{◌≡◌, ◌*◌, ◌<◌, ◌≤◌, ℕ, List, [], ◌∷◌, ◌++◌, length, map, All, Contains}
use Rattle.std.specs.List.{AllZip}
use Rattle.sha2.specs.Sha256.{sha256}
use Rattle.base_types.specs.declared.extent.Extent.{Extent}
use Rattle.base_types.specs.declared.posting.Posting.{Posting}
use Rattle.journal_entries.specs.declared.place.Layout.{Layout}
use Rattle.journal_entries.specs.declared.place.Place.{Place}
use Rattle.lists_postings.specs.Lists.{IsList, sublist}
use Rattle.lists_postings.specs.Sizes.{size}
use Rattle.pages_area.specs.Runs.{IsLowestRun, pages_for}
use Rattle.pages_area.specs.Taken.{PagesState, HasTaken}
use Rattle.pages_area.specs.Wrote.{Piece, HoldsPiece}
use Rattle.pages_checked.specs.Layouts.{spelling_in}
use Rattle.pages_sublists.specs.Segments.{next_cut, EachSegment, HoldsSublist}

-- the bytes of the segments' sublists
abbrev pub spellings : Layout → List Posting → List ℕ → ℕ → List (List ℕ)
spellings layout list [] h = []
spellings layout list (f ∷ cuts) h = spelling_in layout (sublist f (next_cut cuts h) list) ∷ spellings layout list cuts h

-- from the given list the segments have the same sublists
pub record Serves (cuts : List ℕ) (h : ℕ) (list given : List Posting) : Type 0 where
  pub ordered : IsList given
  pub same : (layout : Layout) → spellings layout given cuts h ≡ spellings layout list cuts h

-- it is one of the times, and none of them is earlier
pub record IsEarliest (times : List ℕ) (t : ℕ) : Type 0 where
  pub one : Contains times t
  pub least : All (λ s. t ≤ s) times

-- it is one of them, and none of them is later
pub record IsLatest (times : List ℕ) (t : ℕ) : Type 0 where
  pub one : Contains times t
  pub greatest : All (λ s. s ≤ t) times

-- more than half of the list overlaps the time from the earliest of the cuts and the end to the latest
pub record IsMostlyMet (cuts : List ℕ) (h : ℕ) (list : List Posting) : Type 0 where
  pub from : ℕ
  pub to : ℕ
  pub earliest : IsEarliest (h ∷ cuts) from
  pub latest : IsLatest (h ∷ cuts) to
  pub most : length list < 2 * size from to list

-- how many bytes each of them has
abbrev pub sizes : List (List ℕ) → List ℕ
sizes all = map (λ (bytes : List ℕ). length bytes) all

-- the place is for these bytes, and has their digest; with none it is at page 0
pub record IsFor (place : Place) (bytes : List ℕ) : Type 0 where
  pub size : place.extent.bytes ≡ length bytes
  pub digest : place.digest ≡ sha256 bytes
  pub empty : place.extent.bytes ≡ 0 → place.extent.first ≡ 0

-- the extents of places
abbrev pub extents : List Place → List Extent
extents places = map (λ (p : Place). p.extent) places

-- places and the bytes that are for them
pub record PreparedState : Type 0 where
  pub places : List Place
  pub spellings : List (List ℕ)

-- bytes with the extents that they are for
abbrev pub pieces_of : List Place → List (List ℕ) → List Piece
pieces_of [] all = []
pieces_of (p ∷ places) [] = []
pieces_of (p ∷ places) (bytes ∷ all) = record { extent = p.extent; bytes = bytes } ∷ pieces_of places all

abbrev pub pieces : PreparedState → List Piece
pieces prepared = pieces_of prepared.places prepared.spellings

-- a place for these bytes is added behind others, and takes the lowest run
pub record Adds (bytes : List ℕ) (old new : PagesState) (before after : List Place) : Type 0 where
  pub place : Place
  pub is : after ≡ before ++ place ∷ []
  pub size : place.extent.bytes ≡ length bytes
  pub digest : place.digest ≡ sha256 bytes
  pub lowest : (taken : List Extent) → HasTaken old taken → IsLowestRun taken (pages_for (length bytes)) place.extent.first
  pub taken : (taken : List Extent) → HasTaken old taken → HasTaken new (place.extent ∷ taken)

-- the place is for the segment's sublist
abbrev pub IsForSublist : Layout → List Posting → ℕ → ℕ → Place → Type 0
IsForSublist layout list f g place = IsFor place (spelling_in layout (sublist f g list))

-- Places that are for the spellings, one by one, are for the segments' sublists.
abbrev pub PlacesAreForSublists : Type 0
PlacesAreForSublists =
    (layout : Layout) (list : List Posting) (cuts : List ℕ) (h : ℕ) (places : List Place)
    → AllZip IsFor places (spellings layout list cuts h) → EachSegment (IsForSublist layout list) cuts h places

-- Pages that hold the pieces of a list's segments hold their sublists.
abbrev pub PiecesHoldSublists : Type 0
PiecesHoldSublists =
    (layout : Layout) (list : List Posting) (cuts : List ℕ) (h : ℕ) (places : List Place) (pages : List ℕ)
    → AllZip IsFor places (spellings layout list cuts h)
    → All (HoldsPiece pages) (pieces_of places (spellings layout list cuts h)) → EachSegment (HoldsSublist layout list pages) cuts h places
