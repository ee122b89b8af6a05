-- What reads give after good writes to extents.
use Rattle.std.specs.Prelude.{◌≡◌, ℕ, ◌+◌, ◌*◌, ◌<◌, ◌≤◌, max, ◌==◌, if◌then◌else◌, List, ◌++◌, length, map, All}
use Rattle.machine_model.specs.Areas.{Bytes}
use Rattle.machine_model.specs.States.{DiskState}
use Rattle.machine_model.specs.Images.{Only}
use Rattle.machine_model.specs.declared.range.Range.{Range}
use Rattle.base_types.specs.declared.extent.Extent.{Extent}
use Rattle.pages_area.specs.Taken.{IsApartFrom, AreApart}
use Rattle.pages_area.specs.Ranges.{SameOutside, range_of, bytes_in}

-- bytes for an extent
pub record Piece : Type 0 where
  pub extent : Extent
  pub bytes : List ℕ

abbrev pub extents_of : List Piece → List Extent
extents_of pieces = map (λ piece. piece.extent) pieces

abbrev pub ranges_of : List Piece → List Range
ranges_of pieces = map range_of (extents_of pieces)

-- the pages hold the bytes of a piece where its extent is, which lies inside them where it has bytes
pub record HoldsPiece (pages : List ℕ) (piece : Piece) : Type 0 where
  pub inside : 0 < piece.extent.bytes → piece.extent.first * 4096 + piece.extent.bytes ≤ length pages
  pub bytes : bytes_in piece.extent pages ≡ piece.bytes

-- From the bytes before, these are the bytes after good writes of these pieces: the pages hold each of them, and are as they were
-- outside; the journal is as it was.
pub record Wrote (pieces : List Piece) (old new : Bytes) : Type 0 where
  pub journal : new.journal ≡ old.journal
  pub elsewhere : SameOutside (ranges_of pieces) old.pages new.pages
  pub each : All (HoldsPiece new.pages) pieces

-- and a stop leaves nothing but them
pub record Stored (pieces : List Piece) (old new : DiskState) : Type 0 where
  pub wrote : Wrote pieces old.holds new.holds
  pub only : Only new.holds new

-- how long the pages are behind a good write to an extent
abbrev pub reach_with : Extent → ℕ → ℕ
reach_with e reach = if e.bytes == 0 then reach else max reach (e.first * 4096 + e.bytes)

-- the bytes of an extent stay where only extents apart from it are written
abbrev pub ExtentsApartStay : Type 0
ExtentsApartStay = (e : Extent) (others : List Extent) (was pages : List ℕ) → IsApartFrom e others
    → (0 < e.bytes → e.first * 4096 + e.bytes ≤ length was)
    → SameOutside (map range_of others) was pages → bytes_in e pages ≡ bytes_in e was

-- good writes to extents that share no page, one behind the other, are good writes to all of them
abbrev pub GoodWritesJoin : Type 0
GoodWritesJoin = (xs ys : List Piece) (a b c : Bytes) → AreApart (extents_of (xs ++ ys)) → Wrote xs a b → Wrote ys b c
    → Wrote (xs ++ ys) a c
