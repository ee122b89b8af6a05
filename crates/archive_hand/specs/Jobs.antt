-- A plan that is being written, in hand: its sublists, its entry, and how many of their pages are written.
use Rattle.std.specs.Prelude.{◌≡◌, ℕ, ◌-◌, ◌≤◌, List, [], length, take, Option, Some, None}
use Rattle.base_types.specs.declared.extent.Extent.{Extent}
use Rattle.pages_area.specs.Caches.{Kept}
use Rattle.pages_sublists.specs.Paged.{pages_of, some_pages}
use Rattle.pages_sublists.specs.Preparing.{extents, pieces}
use Rattle.model_archive.specs.Histories.{History}
use Rattle.model_archive.specs.Steps.{stint_pages}
use Rattle.model_archive.specs.Worlds.{Job as ModelJob}
use Rattle.archive_hand.specs.Storing.{IsStorable}
use Rattle.archive_hand.specs.declared.job.Job.{Job}
use Rattle.archive_hand.specs.declared.job.Stint.{Stint}
use Rattle.archive_hand.specs.declared.job.Stint.TheVariants.{Wrote}

-- the pages of its sublists, each with the bytes that it is to have
abbrev pub job_pages : Job → List Kept
job_pages job = pages_of (pieces job.ready.prepared)

-- those that are written
abbrev pub written_of : Option Job → List Kept
written_of None = []
written_of (Some job) = take job.written (job_pages job)

-- those that a stint writes
abbrev pub stint_of : Option Job → List Kept
stint_of None = []
stint_of (Some job) = some_pages job.written stint_pages job.ready.prepared

-- the extents that it takes
abbrev pub places_of : Option Job → List Extent
places_of None = []
places_of (Some job) = extents job.ready.prepared.places

-- what the abstract archive knows of it
abbrev pub plain_job : Option Job → Option ModelJob
plain_job None = None
plain_job (Some job) = Some (record {
  plan = job.ready.stored.plan;
  space = job.ready.summary.space;
  full = job.ready.summary.full;
  left = job.pages - job.written;
})

-- It waits behind a history: its entry may come next, its places share no page with the live ones, there is room for it among the live plans, and what
-- will be told of it is of its plan.
pub record IsWaiting (history : History) (free : ℕ) (job : Job) : Type 0 where
  pub storable : IsStorable history job.ready.stored.plan job.ready.prepared job.ready.frame
  pub pages_are : job.pages ≡ length (job_pages job)
  pub bytes_are : job.ready.bytes ≡ length job.ready.frame
  pub within : job.written ≤ job.pages
  pub room : 1 ≤ free
  pub segments : job.ready.summary.segments ≡ length job.ready.stored.plan.cuts
  pub horizon : job.ready.summary.horizon ≡ job.ready.stored.plan.horizon
  pub cost : job.ready.summary.cost ≡ None

-- if a plan is being written, it waits
abbrev pub IsUnderWay : History → ℕ → Option Job → Type 0
IsUnderWay history room None = Unit {0}
IsUnderWay history room (Some job) = IsWaiting history room job

-- a stint that left pages tells how many
abbrev pub TellsLeft : Option Job → Stint → Type 0
TellsLeft (Some job) (Wrote left) = left ≡ job.pages - job.written
TellsLeft job stint = Unit {0}
