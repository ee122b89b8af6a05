-- A plan that is ready is stored: that it may come next, and what the archive stands for with it, or without.
use Rattle.std.proofs.Common.{◌≡◌, ℕ, ◌+◌, ◌-◌, ◌≤◌, List, [], ◌∷◌, ◌++◌, length, All, Option, IsSome, false, true, ap, sym, subst, ◌∙◌, arith, refl}
use Rattle.std.specs.List.{AllZip}
use Rattle.std.proofs.lemmas.List.{length_push}
use Rattle.std.proofs.lemmas.List.Elements.{All-map}
use Rattle.base_types.specs.declared.extent.Extent.{Extent}
use Rattle.lists_versions.specs.declared.change.Change.{Change}
use Rattle.lists_index.specs.Indexes.{Indexes}
use Rattle.pages_area.specs.Live.{IsInside}
use Rattle.pages_area.specs.Taken.{AreApart, HasTaken}
use Rattle.model_archive.specs.Worlds.{Job as ModelJob, taken_in}
use Rattle.journal_entries.specs.declared.entry.Entry.TheVariants.{Planned}
use Rattle.journal_entries.specs.declared.place.Place.{Place}
use Rattle.journal_entries.specs.declared.plan.PlanEntry.{PlanEntry}
use Rattle.pages_sublists.specs.Preparing.{IsFor, extents, spellings}
use Rattle.pages_sublists.specs.Segments.{seconds}
use Rattle.model_archive.specs.declared.stored.StoredPlan.{StoredPlan}
use Rattle.model_archive.specs.Histories.{History, end_of}
use Rattle.model_archive.specs.Legal.{IsLegalEntry}
use Rattle.model_archive.specs.Planning.{IsListUpTo}
use Rattle.model_archive.specs.Plans.{with_plan, live_plans, live_extents}
use Rattle.model_archive.proofs.HistoryLemmas.{end_of-push, loadable-push, entry_loads, unmarked_push}
use Rattle.model_archive.proofs.LiveLemmas.{live_plans-push}
use Rattle.model_archive.proofs.StoringLemmas.{plan_legal}
use Rattle.archive_hand.specs.Adding.{HasSameShelf}
use Rattle.archive_hand.specs.States.{ArchiveState, StandsBut, StandsFor}
use Rattle.archive_plans.specs.Shelves.{ShelfState, extents_all}
use Rattle.archive_plans.specs.Readying.{HasPlaces, IsReady}
use Rattle.archive_hand.specs.Storing.{IsDraft, IsStorable, IsStoredAs}
use Rattle.archive_plans.specs.declared.readying.Draft.{Draft}
use Rattle.archive_plans.specs.declared.readying.Ready.{Ready}
use Rattle.archive_entries.proofs.IndexLemmas.{changes_still}
use Rattle.archive_entries.proofs.PlaceLemmas.{placed_plan}
use Rattle.archive_hand.proofs.AddLemmas.{inside_on}
use Rattle.archive_hand.proofs.LiveLemmas.{all_inside_with}
use Rattle.archive_hand.proofs.JobLemmas.{apart_without, under_way_more, under_way_planned}
use Rattle.archive_hand.specs.Jobs.{IsUnderWay, places_of}
use Rattle.archive_hand.specs.declared.job.Job.{Job}
use Rattle.journal_entries.specs.Spelling.{spelling}

-- ---- what is ready may come next

ready_legal : (h : History) (draft : Draft) (end count : ℕ) (r : Ready) → IsDraft h draft → IsReady draft end count r → IsLegalEntry h (Planned r.stored.plan)
ready_legal h draft end count r is ready =
    subst (λ (p : PlanEntry). IsLegalEntry h (Planned p)) (sym ready.plan_is)
    (plan_legal h draft.word draft.kind draft.factor draft.horizon draft.cuts.items r.prepared.places draft.list.items is.word is.horizon_is is.list_is is.some is.good ready.each)

pub ready_storable : (h : History) (others : List Extent) (draft : Draft) (end count : ℕ) (r : Ready) → IsDraft h draft → IsReady draft end count r → AreApart (extents r.prepared.places ++ (others ++ live_extents h))
    → IsStorable h r.stored.plan r.prepared r.frame
ready_storable h others draft end count r is ready apart = record {
  entry = ready_legal h draft end count r is ready;
  framed = ready.framed;
  places = ap (λ (p : PlanEntry). p.places) ready.plan_is;
  list = draft.list.items;
  list_is = subst (λ (p : PlanEntry). IsListUpTo h p.word p.horizon.seconds draft.list.items) (sym ready.plan_is)
      (subst (λ (n : ℕ). IsListUpTo h draft.word n draft.list.items) (sym is.horizon_is) is.list_is);
  spelled = ready.spelled ∙ ap (λ (p : PlanEntry). spellings p.layout draft.list.items (seconds p.cuts) p.horizon.seconds) (sym ready.plan_is);
  each = subst (λ (all : List (List ℕ)). AllZip IsFor r.prepared.places all) (sym ready.spelled) ready.each;
  apart = apart_without (extents r.prepared.places) others (live_extents h) apart;
}

pub ready_stored : (job : Option ModelJob) (h : History) (draft : Draft) (end count : ℕ) (r : Ready) → end ≡ end_of h → IsReady draft end count r → HasPlaces draft (taken_in job h) r.prepared.places → IsStoredAs job h draft r.stored.plan
ready_stored job h draft end count r at ready has = record {
  places = r.prepared.places;
  has = has;
  plan_is = ready.plan_is;
  room = omega (arith, ready.fits, at, end_of-push h (Planned r.stored.plan), ap length ready.framed);
}

-- ---- an archive with a plan more

-- an archive whose journal has an entry more, which is a plan's
abbrev pub after_plan : ArchiveState → ℕ → ShelfState → ArchiveState
after_plan a end shelf = record a { end = end; live = true; length = a.length + 1; shelf = shelf }

-- it has a plan more that may come next, and this one is being written then
pub stands_stored : (a : ArchiveState) (h : History) (stored : StoredPlan) (frame : List ℕ) (end : ℕ) (shelf : ShelfState) (job : Option Job) → StandsFor a h → IsLegalEntry h (Planned stored.plan) → frame ≡ spelling (Planned stored.plan)
    → stored.gate ≡ end_of h - 1 → end ≡ a.end + 5 + length frame → shelf.plans ≡ with_plan a.shelf.plans stored → HasTaken shelf.pages (places_of job ++ extents_all shelf.plans) → IsUnderWay (h ++ Planned stored.plan ∷ []) shelf.room job
    → StandsFor (record (after_plan a end shelf) { job = job }) (h ++ Planned stored.plan ∷ [])
stands_stored a h stored frame end shelf job stands legal framed gate ends placed pages waits =
    let plan = stored.plan in
    let plans : shelf.plans ≡ live_plans (h ++ Planned plan ∷ []) =
    placed ∙ ap (λ (l : List StoredPlan). with_plan l stored) stands.plans_are
    ∙ ap (λ (n : ℕ). with_plan (live_plans h) (record { gate = n; plan = plan })) gate ∙ sym (live_plans-push h (Planned plan)) in
    record {
      loadable = loadable-push h (Planned plan) stands.loadable (entry_loads h (Planned plan) legal);
      end_is = omega (arith, ends, stands.end_is, end_of-push h (Planned plan), ap length framed);
      length_is = omega (arith, stands.length_is, length_push h (Planned plan));
      changes_are = placed_plan h a.changes plan stands.changes_are;
      index_is = subst (λ (cs : List (Change (List ℕ))). Indexes a.index cs) (sym (changes_still h plan)) stands.index_is;
      plans_are = plans;
      pages_are = subst (λ (l : List StoredPlan). HasTaken shelf.pages (places_of job ++ extents_all l)) plans pages;
      marked_is = stands.marked_is ∙ sym (unmarked_push h (Planned plan) refl);
      under_way = waits;
    }

pub stands_planned : (a : ArchiveState) (h : History) (draft : Draft) (end count last : ℕ) (r : Ready) (shelf : ShelfState) → StandsFor a h → IsDraft h draft → end ≡ a.end → IsReady draft end count r
    → last ≡ a.end + 5 + length r.frame → shelf.plans ≡ with_plan a.shelf.plans r.stored → HasTaken shelf.pages (places_of a.job ++ extents_all shelf.plans) → (IsSome a.job → 1 ≤ shelf.room) → StandsFor (after_plan a last shelf) (h ++ Planned r.stored.plan ∷ [])
stands_planned a h draft end count last r shelf stands is at ready ends placed pages room =
    let plan = r.stored.plan in
    let gate : r.stored.gate ≡ end_of h - 1 = omega (arith, ready.gate_is, at, stands.end_is) in
    let plans : shelf.plans ≡ live_plans (h ++ Planned plan ∷ []) =
    placed ∙ ap (λ (l : List StoredPlan). with_plan l r.stored) stands.plans_are
    ∙ ap (λ (n : ℕ). with_plan (live_plans h) (record { gate = n; plan = plan })) gate ∙ sym (live_plans-push h (Planned plan)) in
    let taken = subst (λ (l : List StoredPlan). HasTaken shelf.pages (places_of a.job ++ extents_all l)) plans pages in
    stands_stored a h r.stored r.frame last shelf a.job stands (ready_legal h draft end count r is ready) ready.framed gate ends placed pages (under_way_planned h plan a.shelf.room shelf.room a.job shelf.pages taken room stands.under_way)

-- a disk that reached as far as the live plans reaches as far with one more, whose places it reaches
pub placed_inside : (n m : ℕ) (before after : List StoredPlan) (stored : StoredPlan) (places : List Place) → n ≤ m → All (IsInside n) (extents_all before)
    → after ≡ with_plan before stored → stored.plan.places ≡ places → All (λ (p : Place). IsInside m p.extent) places → All (IsInside m) (extents_all after)
placed_inside n m before after stored places more was placed same inside =
    rw placed (all_inside_with m before stored (inside_on n m (extents_all before) more was) (subst (λ (ps : List Place). All (IsInside m) (extents ps)) (sym same) (All-map (IsInside m) (λ (p : Place). p.extent) places inside)))

-- ---- an archive that has what it had

-- where pages have the same extents taken as before, they have whatever was taken
pub same_shelf : (old new : ShelfState) (live : List Extent) → new.plans ≡ old.plans → old.room ≤ new.room → HasTaken old.pages live → HasTaken new.pages live → new.cache ≡ old.cache → HasSameShelf old new
same_shelf old new live plans room was now cache = record {
  plans_are = plans;
  room = room;
  cache_is = cache;
  taken = λ es has. record {
    apart = has.apart;
    counted = has.counted ∙ sym was.counted ∙ now.counted;
    free_are = λ p. ((λ free. (has.free_are p).0 ((was.free_are p).1 ((now.free_are p).0 free))), (λ untaken. (now.free_are p).1 ((was.free_are p).0 ((has.free_are p).1 untaken))));
  };
}

pub stands_still : (a : ArchiveState) (h : History) (shelf : ShelfState) → StandsFor a h → shelf.plans ≡ a.shelf.plans → HasTaken shelf.pages (places_of a.job ++ live_extents h) → IsUnderWay h shelf.room a.job → StandsFor (record a { shelf = shelf }) h
stands_still a h shelf stands plans pages waits = record {
  loadable = stands.loadable;
  end_is = stands.end_is;
  length_is = stands.length_is;
  changes_are = stands.changes_are;
  index_is = stands.index_is;
  plans_are = plans ∙ stands.plans_are;
  pages_are = pages;
  marked_is = stands.marked_is;
  under_way = waits;
}

-- and of one that is spent
pub still_but : (a : ArchiveState) (h : History) (end : ℕ) (shelf : ShelfState) → StandsBut a h → end ≡ a.end → shelf.plans ≡ a.shelf.plans → HasTaken shelf.pages (places_of a.job ++ live_extents h) → a.shelf.room ≤ shelf.room
    → StandsBut (record a { end = end; live = false; shelf = shelf }) h
still_but a h end shelf stands at plans pages room = record {
  loadable = stands.loadable;
  end_is = at ∙ stands.end_is;
  length_is = stands.length_is;
  changes_are = stands.changes_are;
  plans_are = plans ∙ stands.plans_are;
  pages_are = pages;
  marked_is = stands.marked_is;
  under_way = under_way_more h a.shelf.room shelf.room a.job room stands.under_way;
}
