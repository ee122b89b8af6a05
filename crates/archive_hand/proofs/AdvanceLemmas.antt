-- What an archive is behind a stint: it stays sound, reaches as far as it has to, and keeps what it had where the disk failed.
use Rattle.std.proofs.Common.{IsTrue, List, None, Option, Some, [], ap, arith, false, length, refl, subst, sym, take, ℕ, ◌*◌, ◌++◌, ◌+◌, ◌-◌, ◌<◌, ◌∙◌, ◌∷◌, ◌≡◌, ◌≤◌}
use Rattle.std.proofs.lemmas.List.{append-nil}
use Rattle.std.proofs.lemmas.List.Elements.{All-nil}
use Rattle.machine_model.specs.Areas.{Both}
use Rattle.machine_model.specs.States.{DiskState}
use Rattle.journal_gates.specs.Records.{gate_bytes}
use Rattle.journal_entries.specs.declared.entry.Entry.TheVariants.{Planned}
use Rattle.journal_entries.proofs.EntryLemmas.{entry_short}
use Rattle.pages_area.specs.Caches.{Kept, StandsFor as IsCacheOf}
use Rattle.pages_area.specs.Taken.{HasTaken}
use Rattle.pages_sublists.specs.Paged.{ReachPages, some_pages}
use Rattle.model_archive.specs.Histories.{History}
use Rattle.model_archive.specs.Plans.{live_extents, with_plan}
use Rattle.archive_plans.specs.Shelves.{ShelfState, extents_all}
use Rattle.archive_hand.specs.Adding.{IsSpent}
use Rattle.archive_hand.specs.Jobs.{IsWaiting, job_pages, written_of}
use Rattle.archive_hand.specs.States.{ArchiveState, CacheStands, IsSound, Reaches}
use Rattle.archive_hand.specs.declared.job.Job.{Job}
use Rattle.archive_hand.proofs.AddLemmas.{inside_on}
use Rattle.archive_hand.proofs.CacheLemmas.{is_sound, stands_live}
use Rattle.archive_hand.proofs.JobLemmas.{reach_on}
use Rattle.archive_hand.proofs.StintLemmas.{reach_more, reach_places, sound_at}
use Rattle.archive_hand.proofs.StoreLemmas.{placed_inside}
use Rattle.archive_hand.proofs.WorkLemmas.{finished, let_go, plan_now, stands_finished, stands_on, stands_without, went_on}

-- its entry's length is a small number
pub frame_short : (h : History) (room : ℕ) (job : Job) → IsWaiting h room job → job.ready.bytes < 4294967296
frame_short h room job waits = omega (arith, waits.bytes_are, ap length waits.storable.framed, entry_short (Planned job.ready.stored.plan) waits.storable.entry.ranges)

-- once no more than eight pages are left, these are all
pub last_pages : (h : History) (room : ℕ) (job : Job) → IsWaiting h room job → job.pages - job.written ≤ 8 → length (job_pages job) ≤ job.written + 8
last_pages h room job waits last = omega (arith, waits.pages_are, last)

-- ---- a stint that leaves pages

pub went_sound : (a : ArchiveState) (sound : IsSound a) (job : Job) → IsTrue a.live → a.job ≡ Some job → 8 < job.pages - job.written → IsSound (went_on a job)
went_sound a sound job live is more = is_sound (went_on a job) sound.0 (stands_on a sound.0 job is more (stands_live a sound live))

pub went_within : (reach now : Both ℕ) (a : ArchiveState) (job : Job) → a.job ≡ Some job → reach.journal ≤ now.journal → reach.pages ≤ now.pages → Reaches reach a
    → ReachPages now.pages (some_pages job.written 8 job.ready.prepared) → Reaches now (went_on a job)
went_within reach now a job is journal pages was inside = (
  omega (arith, was.0, journal),
  inside_on reach.pages now.pages (extents_all a.shelf.plans) pages was.1,
  reach_more job reach.pages now.pages pages (subst (λ (o : Option Job). ReachPages reach.pages (written_of o)) is was.2) inside,
)

-- ---- the last stint

pub dropped_sound : (a : ArchiveState) (sound : IsSound a) (shelf : ShelfState) → IsTrue a.live → shelf.plans ≡ a.shelf.plans → HasTaken shelf.pages (live_extents sound.0) → IsSound (let_go a shelf)
dropped_sound a sound shelf live plans pages = is_sound (let_go a shelf) sound.0 (stands_without a sound.0 shelf plans pages (stands_live a sound live))

pub dropped_within : (reach : Both ℕ) (a : ArchiveState) (shelf : ShelfState) → shelf.plans ≡ a.shelf.plans → Reaches reach a → Reaches reach (let_go a shelf)
dropped_within reach a shelf plans was = (was.0, rw plans was.1, All-nil (λ (k : Kept). k.page * 4096 + length k.bytes ≤ reach.pages))

pub finished_sound : (a : ArchiveState) (sound : IsSound a) (job : Job) (end : ℕ) (shelf : ShelfState) → IsTrue a.live → a.job ≡ Some job → end ≡ a.end + gate_bytes + length job.ready.frame → shelf.plans ≡ with_plan a.shelf.plans (plan_now a job)
    → HasTaken shelf.pages (extents_all shelf.plans) → IsSound (finished a end shelf)
finished_sound a sound job end shelf live is ends plans pages =
    is_sound (finished a end shelf) (sound.0 ++ Planned job.ready.stored.plan ∷ []) (stands_finished a sound.0 job end shelf is ends plans pages (stands_live a sound live))

pub finished_within : (reach now : Both ℕ) (a : ArchiveState) (h : History) (job : Job) (end : ℕ) (shelf : ShelfState) → a.job ≡ Some job → IsWaiting h a.shelf.room job → job.pages - job.written ≤ 8 → reach.pages ≤ now.pages → Reaches reach a
    → end ≤ now.journal → shelf.plans ≡ with_plan a.shelf.plans (plan_now a job) → ReachPages now.pages (some_pages job.written 8 job.ready.prepared) → Reaches now (finished a end shelf)
finished_within reach now a h job end shelf is waits last longer was ended plans inside =
    let written = subst (λ (o : Option Job). ReachPages reach.pages (written_of o)) is was.2 in (
      ended,
      placed_inside reach.pages now.pages a.shelf.plans shelf.plans (plan_now a job) job.ready.prepared.places longer was.1 plans waits.storable.places
          (reach_places job reach.pages now.pages waits.storable.each (last_pages h a.shelf.room job waits last) longer written inside),
      All-nil (λ (k : Kept). k.page * 4096 + length k.bytes ≤ now.pages),
    )

-- ---- the disk failed

-- all is as it was, but that no more may be changed
abbrev pub failed : ArchiveState → ℕ → ShelfState → Job → ArchiveState
failed a end shelf job = record a { end = end; live = false; shelf = shelf; job = Some job }

failed_is : (a : ArchiveState) (end : ℕ) (shelf : ShelfState) (back job : Job) → a.job ≡ Some job → end ≡ a.end → shelf ≡ a.shelf → back ≡ job → failed a end shelf back ≡ record a { live = false }
failed_is a end shelf back job is ends same given =
    let there : Some back ≡ a.job = ap Some given ∙ sym is in
    λ i. record a { end = ends i; live = false; shelf = same i; job = there i }

pub failed_sound : (a : ArchiveState) (sound : IsSound a) (end : ℕ) (shelf : ShelfState) (back job : Job) → IsTrue a.live → a.job ≡ Some job → end ≡ a.end → shelf ≡ a.shelf → back ≡ job → IsSound (failed a end shelf back)
failed_sound a sound end shelf back job live is ends same given = subst IsSound (sym (failed_is a end shelf back job is ends same given)) (sound_at a false sound live)

pub failed_within : (reach now : Both ℕ) (a : ArchiveState) (end : ℕ) (shelf : ShelfState) (back job : Job) → a.job ≡ Some job → end ≡ a.end → shelf ≡ a.shelf → back ≡ job → reach.journal ≤ now.journal → reach.pages ≤ now.pages → Reaches reach a
    → Reaches now (failed a end shelf back)
failed_within reach now a end shelf back job is ends same given journal pages was =
    subst (Reaches now) (sym (failed_is a end shelf back job is ends same given)) (
      omega (arith, was.0, journal),
      inside_on reach.pages now.pages (extents_all a.shelf.plans) pages was.1,
      reach_on reach.pages now.pages (written_of a.job) pages was.2,
    )

pub failed_spent : (a : ArchiveState) (end : ℕ) (shelf : ShelfState) (back job : Job) → a.job ≡ Some job → end ≡ a.end → shelf ≡ a.shelf → back ≡ job → IsSpent a (failed a end shelf back)
failed_spent a end shelf back job is ends same given =
    subst (IsSpent a) (sym (failed_is a end shelf back job is ends same given)) (record {
      end_is = refl;
      length_is = refl;
      changes_are = refl;
      index_is = refl;
      shelf_is = record { plans_are = refl; room = omega arith; taken = λ es has. has; cache_is = refl };
      marked_is = refl;
      asked_is = refl;
      job_is = refl;
      live_is = refl;
    })

-- ---- what is kept

-- what is kept, and what was written of the job
pub cached_at : (d : DiskState) (a : ArchiveState) (job : Job) → a.job ≡ Some job → CacheStands d a → IsCacheOf (a.shelf.cache ++ take job.written (job_pages job)) d.holds.pages
cached_at d a job is cached = subst (λ (o : Option Job). IsCacheOf (a.shelf.cache ++ written_of o) d.holds.pages) is cached

-- where nothing is written any more
pub cached_idle : (cache : List Kept) (pages : List ℕ) → IsCacheOf cache pages → IsCacheOf (cache ++ written_of None) pages
cached_idle cache pages cached = subst (λ (ks : List Kept). IsCacheOf ks pages) (sym (append-nil cache)) cached
