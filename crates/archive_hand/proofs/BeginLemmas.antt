-- A plan is begun: what waits then, and what is told of it.
use Rattle.std.proofs.Common.{IsTrue, List, None, Option, Some, [], ap, arith, length, subst, sym, ℕ, ◌++◌, ◌-◌, ◌∙◌, ◌≡◌, ◌≤◌}
use Rattle.std.specs.List.{AllZip}
use Rattle.base_commands.specs.declared.command.Kind.{Kind}
use Rattle.base_commands.specs.declared.command.Kind.TheVariants.{Guarantee}
use Rattle.pages_area.specs.Taken.{AreApart, HasTaken}
use Rattle.journal_entries.specs.declared.place.Place.{Place}
use Rattle.journal_entries.specs.declared.plan.PlanEntry.{PlanEntry}
use Rattle.pages_sublists.specs.Preparing.{IsFor, extents}
use Rattle.plans_kinds.specs.Plans.{IsCostOf, plan_space}
use Rattle.model_archive.specs.Histories.{History, end_of}
use Rattle.model_archive.specs.Plans.{live_extents}
use Rattle.model_archive.specs.Steps.{pages_in}
use Rattle.model_archive.specs.declared.summary.Summary.{Summary}
use Rattle.archive_plans.specs.Readying.{HasPlaces, IsReady}
use Rattle.archive_plans.specs.Shelves.{ShelfState}
use Rattle.archive_plans.specs.declared.readying.Draft.{Draft}
use Rattle.archive_plans.specs.declared.readying.Ready.{Ready}
use Rattle.archive_hand.specs.Jobs.{IsWaiting, places_of, plain_job}
use Rattle.archive_hand.specs.States.{ArchiveState, IsSound, StandsFor}
use Rattle.archive_hand.specs.Storing.{IsDraft, IsTakenOn}
use Rattle.archive_hand.specs.declared.job.Begun.{Begun}
use Rattle.archive_hand.specs.declared.job.Job.{Job}
use Rattle.archive_hand.proofs.CacheLemmas.{is_sound, stands_live}
use Rattle.archive_hand.proofs.JobLemmas.{under_way_more}
use Rattle.archive_hand.proofs.StintLemmas.{pages_many}
use Rattle.archive_hand.proofs.StoreLemmas.{ready_storable, ready_stored, stands_still}

-- what is ready, of which no page is written
abbrev pub job_of : Ready → ℕ → Job
job_of ready pages = record { ready = ready; pages = pages; written = 0 }

begun_waits : (h : History) (draft : Draft) (end count pages room : ℕ) (r : Ready) → IsDraft h draft → draft.kind ≡ Guarantee → IsReady draft end count r → AreApart (extents r.prepared.places ++ live_extents h)
    → pages ≡ pages_in (extents r.prepared.places) → 2 ≤ room → IsWaiting h room (job_of r pages)
begun_waits h draft end count pages room r is kind ready apart many free =
    let each = subst (λ (all : List (List ℕ)). AllZip IsFor r.prepared.places all) (sym ready.spelled) ready.each in
    let none : draft.cost ≡ None = subst (λ (k : Kind). IsCostOf k draft.list.items draft.cuts.items draft.horizon.seconds draft.cost) kind is.cost_is in
    record {
      storable = ready_storable h [] draft end count r is ready apart;
      pages_are = many ∙ sym (pages_many r.prepared.places r.prepared.spellings each);
      bytes_are = ready.bytes_are;
      within = omega arith;
      room = omega (arith, free);
      segments = ap (λ (s : Summary). s.segments) ready.told ∙ sym (ap (λ (p : PlanEntry). length p.cuts) ready.plan_is);
      horizon = ap (λ (s : Summary). s.horizon) ready.told ∙ sym (ap (λ (p : PlanEntry). p.horizon) ready.plan_is);
      cost = ap (λ (s : Summary). s.cost) ready.told ∙ none;
    }

-- the archive with it
abbrev pub with_job : ArchiveState → ShelfState → Job → ArchiveState
with_job a shelf job = record a { shelf = shelf; job = Some job }

pub stands_begun : (a : ArchiveState) (h : History) (draft : Draft) (end count pages : ℕ) (r : Ready) (shelf : ShelfState) → StandsFor a h → IsDraft h draft → draft.kind ≡ Guarantee → IsReady draft end count r
    → shelf.plans ≡ a.shelf.plans → HasTaken shelf.pages (extents r.prepared.places ++ live_extents h) → pages ≡ pages_in (extents r.prepared.places) → 2 ≤ shelf.room → StandsFor (with_job a shelf (job_of r pages)) h
stands_begun a h draft end count pages r shelf stands is kind ready plans taken many free = record {
  loadable = stands.loadable;
  end_is = stands.end_is;
  length_is = stands.length_is;
  changes_are = stands.changes_are;
  index_is = stands.index_is;
  plans_are = plans ∙ stands.plans_are;
  pages_are = taken;
  marked_is = stands.marked_is;
  under_way = begun_waits h draft end count pages shelf.room r is kind ready taken.apart many free;
}

-- what is told of it
pub begun_taken : (h : History) (draft : Draft) (end count pages : ℕ) (r : Ready) (b : Begun) → IsReady draft end count r → end ≡ end_of h → HasPlaces draft (live_extents h) r.prepared.places → pages ≡ pages_in (extents r.prepared.places)
    → b.segments ≡ r.summary.segments → b.pages ≡ pages → IsTakenOn h draft (plain_job (Some (job_of r pages))) b
begun_taken h draft end count pages r b ready at has many segments are =
    let places : r.stored.plan.places ≡ r.prepared.places = ap (λ (p : PlanEntry). p.places) ready.plan_is in
    let all : pages ≡ pages_in (extents r.stored.plan.places) = many ∙ sym (ap (λ (ps : List Place). pages_in (extents ps)) places) in
    let left : pages - 0 ≡ pages_in (extents r.stored.plan.places) = omega (arith, all) in
    let space : r.summary.space ≡ plan_space draft.list.items draft.cuts.items draft.horizon.seconds = ap (λ (s : Summary). s.space) ready.told in
    let full : r.summary.full ≡ length draft.list.items = ap (λ (s : Summary). s.full) ready.told in
    record {
      plan = r.stored.plan;
      stored = ready_stored None h draft end count r at ready has;
      job_is = λ i. Some (record { plan = r.stored.plan; space = space i; full = full i; left = left i });
      segments_are = segments ∙ ap (λ (s : Summary). s.segments) ready.told ∙ sym (ap (λ (p : PlanEntry). length p.cuts) ready.plan_is);
      pages_are = are ∙ all;
    }

-- ---- and where it isn't

-- the shelf alone changes, and of it the pages and the room
pub same_but : (a : ArchiveState) (shelf : ShelfState) (job : Option Job) → shelf.plans ≡ a.shelf.plans → shelf.cache ≡ a.shelf.cache
    → ◌≡◌ {A = ArchiveState} (record a { shelf = shelf; job = job }) (record a { shelf = record (a.shelf) { pages = shelf.pages; room = shelf.room }; job = job })
same_but a shelf job plans cache = λ i. record a { shelf = record { plans = plans i; pages = shelf.pages; cache = cache i; room = shelf.room }; job = job }

pub still_sound : (a : ArchiveState) (sound : IsSound a) (shelf : ShelfState) → IsTrue a.live → shelf.plans ≡ a.shelf.plans → HasTaken shelf.pages (places_of a.job ++ live_extents sound.0) → a.shelf.room ≤ shelf.room → IsSound (record a { shelf = shelf })
still_sound a sound shelf live plans pages room =
    let stands = stands_live a sound live in
    is_sound (record a { shelf = shelf }) sound.0 (stands_still a sound.0 shelf stands plans pages (under_way_more sound.0 a.shelf.room shelf.room a.job room stands.under_way))
