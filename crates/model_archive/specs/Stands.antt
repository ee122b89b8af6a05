-- What the bytes of a disk stand for.
use Rattle.std.specs.Prelude.{◌≡◌, ◌⊎◌, ℕ, ◌+◌, ◌<◌, List, ◌∷◌, ◌++◌, length, map, take, get_or}
use Rattle.machine_model.specs.Areas.{Bytes}
use Rattle.machine_model.specs.States.{DiskState}
use Rattle.machine_model.specs.Images.{MayLeave}
use Rattle.journal_gates.specs.Records.{gate_bytes, front}
use Rattle.journal_gates.specs.Spelled.{Spells}
use Rattle.journal_gates.specs.Refused.{IsNotJournal}
use Rattle.pages_area.specs.Live.{AreLive}
use Rattle.journal_entries.specs.Spelling.{spelling, IsEntry}
use Rattle.journal_entries.specs.Faults.{IsFault}
use Rattle.journal_entries.specs.declared.entry.Entry.{Entry}
use Rattle.model_archive.specs.Histories.{History}
use Rattle.model_archive.specs.Legal.{IsLoadable, IsLoadableEntry}
use Rattle.model_archive.specs.Plans.{live_extents, live_gates}
use Rattle.model_archive.specs.Holding.{HoldsPlans}
use Rattle.model_archive.specs.Worlds.{World}

-- the bodies of a history's journal
abbrev pub bodies_of : History → List (List ℕ)
bodies_of history = map spelling history

-- an image stands for a history: its journal spells the history's entries, a load accepts the history, and its pages hold the sublists of the
-- live plans
pub record Stands (history : History) (image : Bytes) : Type 0 where
  pub spelled : Spells image.journal (bodies_of history)
  pub loadable : IsLoadable history
  pub held : HoldsPlans history image.pages

-- an image stands for a state of the abstract archive: by the state's history
abbrev pub StandsIn : World → Bytes → Type 0
StandsIn world image = Stands world.history image

-- each image that a stop may leave now stands for this history
abbrev pub EachStands : DiskState → History → Type 0
EachStands d history = (image : Bytes) → MayLeave d.now image → Stands history image

-- a body that spells no entry: the offset behind the longest front with which an entry begins
abbrev pub IsMisspelled : List ℕ → ℕ → Type 0
IsMisspelled body offset = IsFault body offset

-- a body that spells an entry which no load accepts after a history
pub record IsIllegal (before : History) (body : List ℕ) : Type 0 where
  pub entry : Entry
  pub ranges : IsEntry entry
  pub spelled : body ≡ spelling entry
  pub refused : IsLoadableEntry before entry → ⊥

-- A journal whose bodies spell a history that loads, up to one that spells no entry (the place is that of its fault), or one that no load
-- accepts next (the place is that of its gate).
pub record IsBadEntry (image : Bytes) (at : ℕ) : Type 0 where
  pub before : History
  pub body : List ℕ
  pub rest : List (List ℕ)
  pub spelled : Spells image.journal (bodies_of before ++ body ∷ rest)
  pub loadable : IsLoadable before
  pub fault : ((offset : ℕ) × IsMisspelled body offset × (at ≡ length (front (bodies_of before)) + gate_bytes + offset))
      ⊎ (IsIllegal before body × (at ≡ length (front (bodies_of before))))

-- A journal whose entries load, and the first extent of a live plan that lies outside Pages or shares a page with an earlier one. (The place is
-- that of the gate of the plan's entry.)
pub record IsBadPlace (image : Bytes) (at : ℕ) : Type 0 where
  pub history : History
  pub spelled : Spells image.journal (bodies_of history)
  pub loadable : IsLoadable history
  pub index : ℕ
  pub inside : index < length (live_extents history)
  pub good : AreLive (take index (live_extents history)) (length image.pages)
  pub bad : AreLive (take (index + 1) (live_extents history)) (length image.pages) → ⊥
  pub at_is : at ≡ get_or (live_gates history) index 0

-- The bytes of a disk that is no archive's, and the place in the journal where that shows. (What the places hold, and whether plans are least,
-- isn't looked at: an image that stands for no history need not be one of these.)
abbrev pub IsNotArchive : Bytes → ℕ → Type 0
IsNotArchive image at = IsNotJournal image.journal at ⊎ (IsBadEntry image at ⊎ IsBadPlace image at)
