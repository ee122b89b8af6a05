-- Where the parts of something go that is stored in several runs of pages.
use Rattle.std.specs.Prelude.{◌≡◌, ◌⊎◌, ℕ, List, [], ◌∷◌}
use Rattle.base_types.specs.declared.extent.Extent.{Extent}
use Rattle.pages_area.specs.Runs.{IsFreeRun, IsLowestRun, pages_for}

-- So many bytes each lie here: each part takes the lowest run that shares no page with those that are taken or came
-- before it.
abbrev pub ArePlaced : List Extent → List ℕ → List Extent → Type 0
ArePlaced taken [] [] = Unit {0}
ArePlaced taken (bytes ∷ sizes) (e ∷ extents) = (e.bytes ≡ bytes) × IsLowestRun taken (pages_for bytes) e.first
    × ArePlaced (e ∷ taken) sizes extents
ArePlaced taken [] (e ∷ extents) = ⊥
ArePlaced taken (bytes ∷ sizes) [] = ⊥

-- For one of the parts there is no run, the earlier ones having been placed.
abbrev pub HaveNoRoom : List Extent → List ℕ → Type 0
HaveNoRoom taken [] = ⊥
HaveNoRoom taken (bytes ∷ sizes) = ((first : ℕ) → IsFreeRun taken (pages_for bytes) first → ⊥)
    ⊎ ((e : Extent) × (e.bytes ≡ bytes) × IsLowestRun taken (pages_for bytes) e.first × HaveNoRoom (e ∷ taken) sizes)

-- Whatever is taken, the parts are placed, or there is no room for them.
abbrev pub EachIsPlacedOrNot : Type 0
EachIsPlacedOrNot = (taken : List Extent) (sizes : List ℕ) → ((extents : List Extent) × ArePlaced taken sizes extents)
    ⊎ HaveNoRoom taken sizes

-- Never both.
abbrev pub NoneIsPlacedAndNot : Type 0
NoneIsPlacedAndNot = (taken : List Extent) (sizes : List ℕ) (extents : List Extent) → ArePlaced taken sizes extents
    → ¬ (HaveNoRoom taken sizes)

-- The parts lie in one way.
abbrev pub OneListOfPlaces : Type 0
OneListOfPlaces = (taken : List Extent) (sizes : List ℕ) (a b : List Extent) → ArePlaced taken sizes a → ArePlaced taken sizes b → a ≡ b
