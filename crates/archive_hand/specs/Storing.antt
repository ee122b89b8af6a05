-- How a plan is stored.
use Rattle.std.specs.Prelude.{◌≡◌, ◌⊎◌, ℕ, ◌<◌, ◌≤◌, List, [], ◌∷◌, ◌++◌, length, All, Option, Some, None}
use Rattle.std.specs.List.{AllZip}
use Rattle.machine_model.specs.Areas.{Bytes}
use Rattle.machine_model.specs.Images.{MayLeave}
use Rattle.machine_model.specs.Moments.{GoesOn, LeavesOnly}
use Rattle.machine_model.specs.States.{DiskState}
use Rattle.machine_model.specs.declared.range.Range.{Range}
use Rattle.journal_gates.specs.Spelled.{Spells}
use Rattle.pages_area.specs.Live.{IsInside}
use Rattle.pages_area.specs.Ranges.{SameOutside}
use Rattle.pages_area.specs.Wrote.{HoldsPiece, Piece, extents_of, ranges_of}
use Rattle.base_types.specs.Limits.{limit_of}
use Rattle.base_types.specs.declared.posting.Posting.{Posting}
use Rattle.base_types.specs.declared.which.Which.TheVariants.{Journal}
use Rattle.journal_entries.specs.declared.entry.Entry.TheVariants as entries
use Rattle.journal_entries.specs.declared.place.Place.{Place}
use Rattle.journal_entries.specs.declared.plan.PlanEntry.{PlanEntry}
use Rattle.journal_entries.specs.PlanSpelling.{IsWord}
use Rattle.journal_entries.specs.Spelling.{spelling}
use Rattle.pages_area.specs.Taken.{AreApart}
use Rattle.pages_sublists.specs.Preparing.{IsFor, PreparedState, extents, spellings}
use Rattle.pages_sublists.specs.Segments.{seconds}
use Rattle.plans_kinds.specs.Plans.{IsGoodPlan, IsCostOf, plan_space}
use Rattle.model_archive.specs.Histories.{History, end_of}
use Rattle.model_archive.specs.Legal.{IsLegalEntry}
use Rattle.model_archive.specs.Planning.{IsListUpTo, last_second}
use Rattle.model_archive.specs.Plans.{live_extents}
use Rattle.model_archive.specs.Worlds.{Job, taken_in}
use Rattle.archive_plans.specs.declared.readying.Draft.{Draft}
use Rattle.archive_plans.specs.Readying.{HasPlaces, plan_with}
use Rattle.model_archive.specs.Steps.{pages_in}
use Rattle.archive_hand.specs.declared.job.Begun.{Begun}
use Rattle.archive_hand.specs.Stored.{Store, Stocks}
use Rattle.archive_hand.specs.Changing.{LeadsBy}

-- A draft of a history: a plan of a word's list up to the last time that is what its kind promises.
pub record IsDraft (history : History) (draft : Draft) : Type 0 where
  pub word : IsWord draft.word
  pub list_is : IsListUpTo history draft.word (last_second history) draft.list.items
  pub some : 0 < length draft.list.items
  pub horizon_is : draft.horizon.seconds ≡ last_second history
  pub good : IsGoodPlan draft.kind draft.list.items draft.factor draft.cuts.items draft.horizon.seconds
  pub space_is : draft.space ≡ plan_space draft.list.items draft.cuts.items draft.horizon.seconds
  pub cost_is : IsCostOf draft.kind draft.list.items draft.cuts.items draft.horizon.seconds draft.cost

-- A plan that may come next after a history, with the sublists that were prepared for it, and its entry's spelling.
pub record IsStorable (history : History) (plan : PlanEntry) (prepared : PreparedState) (frame : List ℕ) : Type 0 where
  pub entry : IsLegalEntry history (entries.Planned plan)
  pub framed : frame ≡ spelling (entries.Planned plan)
  pub places : plan.places ≡ prepared.places
  pub list : List Posting
  pub list_is : IsListUpTo history plan.word plan.horizon.seconds list
  pub spelled : prepared.spellings ≡ spellings plan.layout list (seconds plan.cuts) plan.horizon.seconds
  pub each : AllZip IsFor prepared.places prepared.spellings
  pub apart : AreApart (extents prepared.places ++ live_extents history)

-- What came of a draft, from a history, beside a plan that is being written: its plan has places and its entry room.
pub record IsStoredAs (job : Option Job) (history : History) (draft : Draft) (plan : PlanEntry) : Type 0 where
  pub places : List Place
  pub has : HasPlaces draft (taken_in job history) places
  pub plan_is : plan ≡ plan_with draft places
  pub room : end_of (history ++ entries.Planned plan ∷ []) ≤ limit_of Journal

-- ---- sublists are written and made durable, and then an entry is appended

-- these pages are an image's from before, but for these ranges
abbrev pub IsOutside : DiskState → List Range → List ℕ → Type 0
IsOutside old ranges pages = (was : Bytes) × MayLeave old.now was × SameOutside ranges was.pages pages

-- a stop came before the entry: each image left since has the journal as it was, and other bytes only where the sublists are to be
pub record IsBegun (bodies : List (List ℕ)) (pieces : List Piece) (old new : DiskState) : Type 0 where
  pub goes_on : GoesOn old new
  pub images : LeavesOnly old new (λ image beside. Spells image.journal bodies × IsOutside old (ranges_of pieces) image.pages
      × (beside ≡ old.now.beside))

-- the sublists stand in these pages: each image left since is as before the entry, or it has the entry and these pages
pub record IsPutDown (bodies : List (List ℕ)) (frame : List ℕ) (pieces : List Piece) (pages : List ℕ) (old new : DiskState) : Type 0 where
  pub goes_on : GoesOn old new
  pub elsewhere : SameOutside (ranges_of pieces) old.holds.pages pages
  pub inside : All (IsInside (length pages)) (extents_of pieces)
  pub each : All (HoldsPiece pages) pieces
  pub images : LeavesOnly old new (λ image beside. ((Spells image.journal bodies × IsOutside old (ranges_of pieces) image.pages)
      ⊎ (Spells image.journal (bodies ++ frame ∷ []) × (image.pages ≡ pages))) × (beside ≡ old.now.beside))

-- all is put down, and each image has the pages that reads give
abbrev pub HasPutDown : List (List ℕ) → List ℕ → List Piece → DiskState → DiskState → Type 0
HasPutDown bodies frame pieces old new = IsPutDown bodies frame pieces new.holds.pages old new
    × ((image : Bytes) → MayLeave new.now image → image.pages ≡ new.holds.pages)

-- the disk failed before the entry, or within it
abbrev pub HasStopped : List (List ℕ) → List ℕ → List Piece → DiskState → DiskState → Type 0
HasStopped bodies frame pieces old new = IsBegun bodies pieces old new ⊎ ((pages : List ℕ) × IsPutDown bodies frame pieces pages old new)

-- a draft comes behind a history as a plan, with its sublists in Pages
pub record IsStoredBy (store next : Store) (draft : Draft) (old new : DiskState) : Type 0 where
  pub plan : PlanEntry
  pub stored : IsStoredAs store.job store.history draft plan
  pub job_is : next.job ≡ store.job
  pub next_is : next.history ≡ store.history ++ entries.Planned plan ∷ []
  pub stocks : Stocks store next
  pub leads : LeadsBy store next old new

-- A draft is taken on behind a history, with places that no live one has: this is what the abstract archive knows of it, and what is told.
pub record IsTakenOn (history : History) (draft : Draft) (job : Option Job) (begun : Begun) : Type 0 where
  pub plan : PlanEntry
  pub stored : IsStoredAs None history draft plan
  pub job_is : job ≡ Some (record {
    plan = plan;
    space = plan_space draft.list.items draft.cuts.items draft.horizon.seconds;
    full = length draft.list.items;
    left = pages_in (extents plan.places);
  })
  pub segments_are : begun.segments ≡ length plan.cuts
  pub pages_are : begun.pages ≡ pages_in (extents plan.places)
