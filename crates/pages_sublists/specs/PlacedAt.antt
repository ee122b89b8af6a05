-- Places that are given for sublists, and the first of them that fails.
use Rattle.std.specs.Prelude.{◌≡◌, ℕ, ◌<◌, List, ◌++◌, length, take, get_or}
use Rattle.std.specs.List.{AllZip}
use Rattle.sha2.specs.Sha256.{sha256}
use Rattle.base_types.specs.declared.extent.Extent.{Extent}
use Rattle.journal_entries.specs.declared.place.Place.{Place}
use Rattle.pages_area.specs.Runs.{IsPageOf, IsTaken}
use Rattle.pages_area.specs.Taken.{PagesState, HasTaken, AreApart}
use Rattle.pages_sublists.specs.Preparing.{IsFor, extents}
use Rattle.pages_sublists.specs.declared.why.PlaceError.{PlaceError}
use Rattle.pages_sublists.specs.declared.why.PlaceError.TheVariants.{Differs, Taken, Memory}

-- the place is for these bytes, by their number and their digest
abbrev pub Suits : Place → List ℕ → Type 0
Suits place bytes = (place.extent.bytes ≡ length bytes) × (place.digest ≡ sha256 bytes)

-- The place and the bytes with this number stand behind so many that pass: each of those is for its bytes, and no two of them share a page, nor
-- does one with what is taken.
pub record IsNextPlace (taken : List Extent) (places : List Place) (all : List (List ℕ)) (k : ℕ) (place : Place)
    (bytes : List ℕ) : Type 0 where
  pub within : k < length places
  pub place_is : place ≡ get_or places k place
  pub bytes_are : bytes ≡ get_or all k bytes
  pub each : AllZip IsFor (take k places) (take k all)
  pub apart : AreApart (extents (take k places) ++ taken)

-- Why places aren't taken for bytes: the first that doesn't pass is for others, or it is for them and shares a page with what is taken or with an
-- earlier one.
abbrev pub IsPlaceFault : List Extent → List Place → List (List ℕ) → PlaceError → Type 0
IsPlaceFault taken places all (Differs k) = (place : Place) × (bytes : List ℕ) × IsNextPlace taken places all k place bytes
    × (Suits place bytes → ⊥)
IsPlaceFault taken places all (Taken k) = (place : Place) × (bytes : List ℕ) × IsNextPlace taken places all k place bytes
    × Suits place bytes
    × (p : ℕ) × IsPageOf place.extent p × IsTaken (extents (take k places) ++ taken) p
IsPlaceFault taken places all Memory = Unit {0}

-- The same of the one place of this number, where a store has taken what it has.
abbrev pub IsFaultOf : PagesState → ℕ → Place → List ℕ → PlaceError → Type 0
IsFaultOf store segment place bytes (Differs k) = (k ≡ segment) × (Suits place bytes → ⊥)
IsFaultOf store segment place bytes (Taken k) = (k ≡ segment) × Suits place bytes
    × ((taken : List Extent) → HasTaken store taken → (p : ℕ) × IsPageOf place.extent p × IsTaken taken p)
IsFaultOf store segment place bytes Memory = Unit {0}
