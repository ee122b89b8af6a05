-- A plan with places of its own that is ready is stored: that it may come next, and what the archive stands for with it.
use Rattle.std.proofs.Common.{◌≡◌, ℕ, ◌+◌, ◌-◌, ◌≤◌, List, [], ◌∷◌, ◌++◌, length, Option, IsSome, ap, sym, subst, ◌∙◌, arith}
use Rattle.std.specs.List.{AllZip}
use Rattle.base_types.specs.declared.extent.Extent.{Extent}
use Rattle.base_types.specs.declared.posting.Posting.{Posting}
use Rattle.pages_area.specs.Taken.{AreApart, HasTaken}
use Rattle.journal_entries.specs.Spelling.{spelling}
use Rattle.journal_entries.specs.declared.entry.Entry.TheVariants.{Planned}
use Rattle.journal_entries.specs.declared.place.Place.{Place}
use Rattle.journal_entries.specs.declared.plan.PlanEntry.{PlanEntry}
use Rattle.pages_sublists.specs.Preparing.{IsFor, extents}
use Rattle.model_archive.specs.declared.stored.StoredPlan.{StoredPlan}
use Rattle.model_archive.specs.Histories.{History, end_of}
use Rattle.model_archive.specs.Legal.{IsLegalEntry}
use Rattle.model_archive.specs.Planning.{IsListUpTo}
use Rattle.model_archive.specs.Plans.{live_extents, live_plans, with_plan}
use Rattle.model_archive.specs.Worlds.{Job as ModelJob, taken_in}
use Rattle.model_archive.proofs.HistoryLemmas.{end_of-push}
use Rattle.model_archive.proofs.LiveLemmas.{live_plans-push}
use Rattle.archive_plans.specs.Shelves.{ShelfState, extents_all}
use Rattle.archive_plans.specs.ReadyingAt.{IsReadyAt, sublists_of}
use Rattle.archive_plans.specs.declared.readying.Ready.{Ready}
use Rattle.machine_model.specs.States.{DiskState}
use Rattle.journal_gates.specs.InStep.{IsInStep}
use Rattle.model_archive.specs.Stands.{bodies_of}
use Rattle.archive_hand.specs.Jobs.{places_of, plain_job}
use Rattle.archive_hand.specs.States.{ArchiveState, AreInStepBy, CacheStands, StandsFor}
use Rattle.archive_hand.specs.Stored.{Store}
use Rattle.archive_hand.specs.Storing.{IsStorable}
use Rattle.archive_hand.specs.StoringAt.{HasOwnPlaces}
use Rattle.archive_hand.proofs.JobLemmas.{apart_without, under_way_planned}
use Rattle.archive_hand.proofs.StoreLemmas.{after_plan, stands_stored}

-- what is ready may come next
pub at_storable : (h : History) (others : List Extent) (plan : PlanEntry) (list : List Posting) (body : List ℕ) (end : ℕ) (r : Ready) → IsLegalEntry h (Planned plan) → IsListUpTo h plan.word plan.horizon.seconds list
    → body ≡ spelling (Planned plan) → IsReadyAt plan list body end r → AreApart (extents r.prepared.places ++ (others ++ live_extents h)) → IsStorable h r.stored.plan r.prepared r.frame
at_storable h others plan list body end r legal listed spelled ready apart = record {
  entry = subst (λ (p : PlanEntry). IsLegalEntry h (Planned p)) (sym ready.plan_is) legal;
  framed = ready.framed ∙ spelled ∙ ap (λ (p : PlanEntry). spelling (Planned p)) (sym ready.plan_is);
  places = ap (λ (p : PlanEntry). p.places) ready.plan_is ∙ sym ready.places_are;
  list = list;
  list_is = subst (λ (p : PlanEntry). IsListUpTo h p.word p.horizon.seconds list) (sym ready.plan_is) listed;
  spelled = ready.spelled ∙ ap (λ (p : PlanEntry). sublists_of p list) (sym ready.plan_is);
  each = ready.each;
  apart = apart_without (extents r.prepared.places) others (live_extents h) apart;
}

-- and it has its own places
pub at_own : (job : Option ModelJob) (h : History) (plan : PlanEntry) (list : List Posting) (body : List ℕ) (end : ℕ) (r : Ready) → end ≡ end_of h → body ≡ spelling (Planned plan) → IsReadyAt plan list body end r
    → AreApart (extents r.prepared.places ++ taken_in job h) → HasOwnPlaces job h plan list
at_own job h plan list body end r at spelled ready apart = record {
  each = subst (λ (ps : List Place). AllZip IsFor ps (sublists_of plan list)) ready.places_are (subst (λ (all : List (List ℕ)). AllZip IsFor r.prepared.places all) ready.spelled ready.each);
  apart = subst (λ (ps : List Place). AreApart (extents ps ++ taken_in job h)) ready.places_are apart;
  fits = omega (arith, ready.fits, at, end_of-push h (Planned plan), ap length (ready.framed ∙ spelled));
}

-- the archive with it stands for a history more, of which this one is being written then
pub at_planned : (a : ArchiveState) (h : History) (plan : PlanEntry) (list : List Posting) (body : List ℕ) (end last : ℕ) (r : Ready) (shelf : ShelfState) → StandsFor a h → IsLegalEntry h (Planned plan) → body ≡ spelling (Planned plan)
    → end ≡ a.end → IsReadyAt plan list body end r → last ≡ a.end + 5 + length r.frame → shelf.plans ≡ with_plan a.shelf.plans r.stored → HasTaken shelf.pages (places_of a.job ++ extents_all shelf.plans) → (IsSome a.job → 1 ≤ shelf.room)
    → StandsFor (after_plan a last shelf) (h ++ Planned plan ∷ [])
at_planned a h plan list body end last r shelf stands legal spelled at ready ends placed pages room =
    let own = r.stored.plan in
    let here : IsLegalEntry h (Planned own) = subst (λ (p : PlanEntry). IsLegalEntry h (Planned p)) (sym ready.plan_is) legal in
    let framed : r.frame ≡ spelling (Planned own) = ready.framed ∙ spelled ∙ ap (λ (p : PlanEntry). spelling (Planned p)) (sym ready.plan_is) in
    let gate : r.stored.gate ≡ end_of h - 1 = omega (arith, ready.gate_is, at, stands.end_is) in
    let plans : shelf.plans ≡ live_plans (h ++ Planned own ∷ []) =
    placed ∙ ap (λ (l : List StoredPlan). with_plan l r.stored) stands.plans_are
    ∙ ap (λ (n : ℕ). with_plan (live_plans h) (record { gate = n; plan = own })) gate ∙ sym (live_plans-push h (Planned own)) in
    let taken = subst (λ (l : List StoredPlan). HasTaken shelf.pages (places_of a.job ++ extents_all l)) plans pages in
    let waits = under_way_planned h own a.shelf.room shelf.room a.job shelf.pages taken room stands.under_way in
    subst (λ (p : PlanEntry). StandsFor (after_plan a last shelf) (h ++ Planned p ∷ [])) ready.plan_is (stands_stored a h r.stored r.frame last shelf a.job stands here framed gate ends placed pages waits)

-- an archive in which nothing but the room on the shelf changed is in step as it was
pub still_in_step : (d : DiskState) (a b : ArchiveState) (s : Store) → AreInStepBy d a s → StandsFor b s.history → b.end ≡ a.end → b.asked ≡ a.asked → b.shelf.cache ≡ a.shelf.cache → b.job ≡ a.job → CacheStands d b → AreInStepBy d b s
still_in_step d a b s in_step stands end asked cache job cached = record {
  stands = stands;
  asked_are = asked ∙ in_step.asked_are;
  journal = subst (λ (n : ℕ). IsInStep d n (bodies_of s.history)) (sym end) in_step.journal;
  pages_are = in_step.pages_are;
  kept_are = cache ∙ in_step.kept_are;
  read_is = in_step.read_is;
  job_is = ap plain_job job ∙ in_step.job_is;
  live = in_step.live;
  same = in_step.same;
  cached = cached;
}
