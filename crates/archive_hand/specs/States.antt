-- What an open archive is, and when it and its disk stand for a history.
use Rattle.std.specs.Prelude.{◌≡◌, ℕ, ◌≤◌, Bool, IsTrue, List, [], ◌∷◌, ◌++◌, length, All, Option}
use Rattle.journal_gates.specs.Records.{first_gate}
use Rattle.machine_model.specs.Areas.{Both, Bytes}
use Rattle.machine_model.specs.Images.{MayLeave}
use Rattle.machine_model.specs.States.{DiskState}
use Rattle.journal_gates.specs.InStep.{IsInStep}
use Rattle.base_types.specs.declared.text_place.TextPlace.{TextPlace}
use Rattle.lists_versions.specs.declared.change.Change.{Change}
use Rattle.pages_area.specs.Caches.{StandsFor as IsCacheOf}
use Rattle.pages_area.specs.Live.{AreLive, IsInside}
use Rattle.pages_area.specs.Taken.{HasTaken}
use Rattle.model_archive.specs.Histories.{History, changes, end_of, is_marked}
use Rattle.model_archive.specs.Legal.{IsLoadable}
use Rattle.model_archive.specs.Plans.{live_plans, live_extents}
use Rattle.model_archive.specs.Holding.{HoldsPlans}
use Rattle.journal_entries.specs.declared.entry.Entry.{Entry}
use Rattle.lists_index.specs.Indexes.{IndexState, Indexes}
use Rattle.archive_entries.specs.Places.{ArePlaced}
use Rattle.archive_plans.specs.Shelves.{ShelfState, extents_all}
use Rattle.model_archive.specs.Stands.{bodies_of}
use Rattle.model_archive.specs.Worlds.{World}
use Rattle.plans_share.specs.declared.asked.Asking.{Asking}
use Rattle.pages_sublists.specs.Paged.{ReachPages}
use Rattle.archive_hand.specs.Jobs.{IsUnderWay, places_of, plain_job, written_of}
use Rattle.archive_hand.specs.Stored.{Store, HasSame, world_by}
use Rattle.archive_hand.specs.declared.job.Job.{Job}

-- an open archive: where its journal ends, whether it may be changed, how many entries it has, the changes of documents with
-- the places of the texts, the index of the texts, the live plans with the free pages and the pages that are kept, whether it has the mark, what it
-- was asked, and a plan that is being written, if one is
pub record ArchiveState : Type 0 where
  pub end : ℕ
  pub live : Bool
  pub length : ℕ
  pub changes : List (Change TextPlace)
  pub index : IndexState
  pub shelf : ShelfState
  pub marked : Bool
  pub asked : List Asking
  pub job : Option Job

-- an open archive stands for a history
pub record StandsFor (archive : ArchiveState) (history : History) : Type 0 where
  pub loadable : IsLoadable history
  pub end_is : archive.end ≡ end_of history
  pub length_is : archive.length ≡ length history
  pub changes_are : ArePlaced first_gate history archive.changes
  pub index_is : Indexes archive.index (changes history)
  pub plans_are : archive.shelf.plans ≡ live_plans history
  pub pages_are : HasTaken archive.shelf.pages (places_of archive.job ++ live_extents history)
  pub marked_is : archive.marked ≡ is_marked history
  pub under_way : IsUnderWay history archive.shelf.room archive.job

-- the same but for what it tells of words
pub record StandsBut (archive : ArchiveState) (history : History) : Type 0 where
  pub loadable : IsLoadable history
  pub end_is : archive.end ≡ end_of history
  pub length_is : archive.length ≡ length history
  pub changes_are : ArePlaced first_gate history archive.changes
  pub plans_are : archive.shelf.plans ≡ live_plans history
  pub pages_are : HasTaken archive.shelf.pages (places_of archive.job ++ live_extents history)
  pub marked_is : archive.marked ≡ is_marked history
  pub under_way : IsUnderWay history archive.shelf.room archive.job

-- what each open archive is, also one that is spent: while it may be changed, what it tells of words stands too
abbrev pub IsSound : ArchiveState → Type 0
IsSound archive = (history : History) × StandsBut archive history × (IsTrue archive.live → Indexes archive.index (changes history))

-- a disk of these lengths reaches as far as an open archive: what it may read is there, and what was written of a plan
abbrev pub Reaches : Both ℕ → ArchiveState → Type 0
Reaches reach archive = (archive.end ≤ reach.journal) × All (IsInside reach.pages) (extents_all archive.shelf.plans)
    × ReachPages reach.pages (written_of archive.job)

-- the pages that an open archive keeps, and those that were written of a plan, are as reads of its disk give them
abbrev pub CacheStands : DiskState → ArchiveState → Type 0
CacheStands d archive = IsCacheOf (archive.shelf.cache ++ written_of archive.job) d.holds.pages

-- the archive but for its cache is as it was
abbrev pub IsSameButCache : ArchiveState → ArchiveState → Type 0
IsSameButCache old new = new ≡ record old { shelf = record (old.shelf) { cache = new.shelf.cache } }

-- what a disk is that an open archive may change, by what reads give, whatever lies in Pages: all images have the history's journal, and in each live place the bytes that reads give
pub record AreInStepBy (d : DiskState) (archive : ArchiveState) (store : Store) : Type 0 where
  pub stands : StandsFor archive store.history
  pub asked_are : archive.asked ≡ store.asked
  pub journal : IsInStep d archive.end (bodies_of store.history)
  pub pages_are : d.holds.pages ≡ store.pages
  pub kept_are : archive.shelf.cache ≡ store.kept
  pub read_is : d.bytes_read.pages ≡ store.read
  pub job_is : plain_job archive.job ≡ store.job
  pub live : AreLive (live_extents store.history) (length store.pages)
  pub same : (image : Bytes) → MayLeave d.now image → All (HasSame store.pages image.pages) (live_extents store.history)
  pub cached : CacheStands d archive

-- and an open archive and its disk are in step with a state of the abstract archive: the pages hold what its live plans need
pub record AreInStep (d : DiskState) (archive : ArchiveState) (world : World) : Type 0 where
  pub store : Store
  pub world_is : world_by store ≡ world
  pub by_reads : AreInStepBy d archive store
  pub held : HoldsPlans world.history store.pages

-- what is stored with an entry more, in these pages, by the archive and its disk then
abbrev pub with_entry : Store → Entry → List ℕ → ArchiveState → DiskState → Store
with_entry store entry pages archive d = record {
  history = store.history ++ entry ∷ [];
  asked = store.asked;
  pages = pages;
  kept = archive.shelf.cache;
  read = d.bytes_read.pages;
  job = store.job;
}

-- the same history in the same pages
abbrev pub with_reads : Store → ArchiveState → DiskState → Store
with_reads store archive d = record store { kept = archive.shelf.cache; read = d.bytes_read.pages }
