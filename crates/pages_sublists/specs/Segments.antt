-- The segments of a plan, and the places that hold their sublists. A plan's cuts are the left ends of its segments, and its
-- horizon is where the last one ends.
use Rattle.std.specs.Prelude.{◌≡◌, ℕ, ◌+◌, ◌*◌, ◌≤◌, List, [], ◌∷◌, ◌++◌, length, map, All, Contains}
use Rattle.std.specs.List.Sorted.{IsStrictlyIncreasing}
use Rattle.sha2.specs.Sha256.{sha256}
use Rattle.base_types.specs.declared.posting.Posting.{Posting}
use Rattle.base_types.specs.declared.time.Time.{Time}
use Rattle.journal_entries.specs.declared.place.Layout.{Layout}
use Rattle.journal_entries.specs.declared.place.Place.{Place}
use Rattle.lists_postings.specs.Lists.{IsList, sublist}
use Rattle.pages_area.specs.Ranges.{bytes_in}
use Rattle.pages_checked.specs.Layouts.{spelling_in}

-- times in seconds
abbrev pub seconds : List Time → List ℕ
seconds cuts = map (λ (c : Time). c.seconds) cuts

-- the left end of the segment behind these, or the horizon
abbrev pub next_cut : List ℕ → ℕ → ℕ
next_cut [] h = h
next_cut (g ∷ cuts) h = g

-- R holds of both ends of each segment and of its place
abbrev pub EachSegment : (ℕ → ℕ → Place → Type 0) → List ℕ → ℕ → List Place → Type 0
EachSegment R [] h [] = Unit {0}
EachSegment R (f ∷ cuts) h (p ∷ places) = R f (next_cut cuts h) p × EachSegment R cuts h places
EachSegment R [] h (p ∷ places) = ⊥
EachSegment R (f ∷ cuts) h [] = ⊥

-- the place of a segment holds the segment's sublist, and has its digest
pub record HoldsSublist (layout : Layout) (list : List Posting) (pages : List ℕ) (f g : ℕ) (place : Place) : Type 0 where
  pub inside : place.extent.first * 4096 + place.extent.bytes ≤ length pages
  pub bytes : bytes_in place.extent pages ≡ spelling_in layout (sublist f g list)
  pub digest : place.digest ≡ sha256 (bytes_in place.extent pages)

-- these are the left ends of segments of the list: they ascend from the first start of a posting up to the horizon, where all postings have ended
pub record AreCutsOf (list : List Posting) (cuts : List ℕ) (h : ℕ) : Type 0 where
  pub ordered : IsList list
  pub ascending : IsStrictlyIncreasing (cuts ++ h ∷ [])
  pub first : Posting
  pub among : Contains list first
  pub begins : first.span.from ≡ next_cut cuts h
  pub inside : All (λ p. (next_cut cuts h ≤ p.span.from) × (p.span.to ≤ h)) list
