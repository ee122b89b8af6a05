-- Sublists that are written some pages at a time: the pages of their places, counted over the places in order.
use Rattle.std.specs.Prelude.{◌≡◌, ℕ, ◌+◌, ◌*◌, ◌<◌, ◌≤◌, List, length, take, drop, map, get_or, sum_by, All}
use Rattle.std.specs.List.{flat_map}
use Rattle.machine_model.specs.Areas.{Bytes}
use Rattle.machine_model.specs.declared.range.Range.{Range}
use Rattle.pages_area.specs.Ranges.{SameOutside}
use Rattle.pages_area.specs.Runs.{pages_for}
use Rattle.pages_area.specs.Wrote.{Piece}
use Rattle.pages_area.specs.Caches.{Kept, StandsFor}
use Rattle.pages_area.specs.Pieces as paging
use Rattle.pages_sublists.specs.Preparing.{PreparedState, pieces}

-- the pages of some pieces, each with the bytes that it is to have
abbrev pub pages_of : List Piece → List Kept
pages_of all = flat_map (λ p. paging.pieces p.extent.first p.bytes) all

-- so many pages of sublists that were prepared, from one on, or as many as there are
abbrev pub some_pages : ℕ → ℕ → PreparedState → List Kept
some_pages from count prepared = take count (drop from (pages_of (pieces prepared)))

-- how many pages the first so many lists of bytes have
abbrev pub pages_in_front : List (List ℕ) → ℕ → ℕ
pages_in_front all count = sum_by (λ (bytes : List ℕ). pages_for (length bytes)) (take count all)

-- for each list of bytes, how many pages those in front of it have
pub record AreStarts (starts : List ℕ) (all : List (List ℕ)) : Type 0 where
  pub as_many : length starts ≡ length all
  pub each : (k d : ℕ) → k < length all → get_or starts k d ≡ pages_in_front all k

-- where the bytes of these pages lie in Pages
abbrev pub page_ranges : List Kept → List Range
page_ranges ks = map (λ k. record { at = k.page * 4096; count = length k.bytes }) ks

-- From the bytes before, these are the bytes after good writes of these pages: Pages holds each of them, and is as it was outside; the journal is as
-- it was.
pub record WrotePages (ks : List Kept) (old new : Bytes) : Type 0 where
  pub journal : new.journal ≡ old.journal
  pub elsewhere : SameOutside (page_ranges ks) old.pages new.pages
  pub each : StandsFor ks new.pages

-- so many bytes reach as far as these pages
abbrev pub ReachPages : ℕ → List Kept → Type 0
ReachPages reach ks = All (λ k. k.page * 4096 + length k.bytes ≤ reach) ks
