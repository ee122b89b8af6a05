-- Which entries an archive may take from another one.
use Rattle.std.specs.Prelude.{◌≡◌, ℕ, ◌≤◌, List, [], ◌∷◌, ◌++◌, Option, Some, None, IfSome}
use Rattle.std.specs.List.{AllZip}
use Rattle.base_types.specs.Limits.{limit_of}
use Rattle.base_types.specs.declared.posting.Posting.{Posting}
use Rattle.base_types.specs.declared.which.Which.TheVariants.{Journal}
use Rattle.pages_area.specs.Taken.{AreApart}
use Rattle.journal_entries.specs.Spelling.{spelling}
use Rattle.journal_entries.specs.declared.entry.Entry.{Entry}
use Rattle.journal_entries.specs.declared.entry.Entry.TheVariants.{Planned}
use Rattle.journal_entries.specs.declared.plan.PlanEntry.{PlanEntry}
use Rattle.pages_sublists.specs.Preparing.{IsFor, spellings}
use Rattle.pages_sublists.specs.Segments.{seconds}
use Rattle.model_archive.specs.Histories.{History, end_of}
use Rattle.model_archive.specs.Legal.{IsLegalEntry, MayBeStored}
use Rattle.model_archive.specs.Planning.{IsListUpTo}
use Rattle.model_archive.specs.Plans.{extents_of, live_extents, plan_of}
use Rattle.model_archive.specs.Worlds.{Job, World}

-- A plan's own places can be taken after a history: each is for its segment's sublist (and without bytes it is at page 0), no two of them
-- share a page, nor does one with a live place; and the plan's horizon isn't earlier than that of the word's live plan.
pub record IsPlacedApart (before : History) (plan : PlanEntry) : Type 0 where
  pub list : List Posting
  pub list_is : IsListUpTo before plan.word plan.horizon.seconds list
  pub each : AllZip IsFor plan.places (spellings plan.layout list (seconds plan.cuts) plan.horizon.seconds)
  pub apart : AreApart (extents_of plan ++ live_extents before)
  pub later : IfSome (plan_of before plan.word) (λ live. live.horizon.seconds ≤ plan.horizon.seconds)

-- where the entry is a plan, its places can be taken; nothing is asked of another here
abbrev pub IfPlaced : History → Entry → Type 0
IfPlaced before (Planned plan) = IsPlacedApart before plan
IfPlaced before other = Unit {0}

-- An entry may be taken after a history: it is legal, a plan's places can be taken, and the journal has room for it.
pub record MayBeTaken (before : History) (entry : Entry) : Type 0 where
  pub legal : IsLegalEntry before entry
  pub placed : IfPlaced before entry
  pub fits : end_of (before ++ entry ∷ []) ≤ limit_of Journal

-- bytes that spell such an entry
abbrev pub SpellsNext : History → List ℕ → Type 0
SpellsNext before body = (entry : Entry) × (body ≡ spelling entry) × MayBeTaken before entry

-- each of these entries may be taken after a history and the entries before it
abbrev pub EachMayBeTaken : History → List Entry → Type 0
EachMayBeTaken before [] = Unit {0}
EachMayBeTaken before (entry ∷ entries) = MayBeTaken before entry × EachMayBeTaken (before ++ entry ∷ []) entries

-- A history can be followed from nothing.
abbrev pub CanBeFollowed : History → Type 0
CanBeFollowed history = EachMayBeTaken [] history

-- ---- an archive that is followed

-- The places of a plan that is being written can be taken after a history.
abbrev pub IfJobPlaced : History → Option Job → Type 0
IfJobPlaced history None = Unit {0}
IfJobPlaced history (Some job) = IsPlacedApart history job.plan

-- A state of the abstract archive whose history can be followed; where a plan is being written, its entry may be taken behind that, if
-- the journal has room, which is asked when it is stored.
pub record KeepsUp (world : World) : Type 0 where
  pub history : CanBeFollowed world.history
  pub stored : MayBeStored world.history world.job
  pub placed : IfJobPlaced world.history world.job
