-- What a stint of the work on a plan comes to, by what reads give.
use Rattle.std.proofs.Common.{All, Bool, List, None, Option, Some, [], ap, arith, false, inl, inr, length, nat_lt, refl, subst, sym, take, true, ℕ, ◌++◌, ◌+◌, ◌-◌, ◌<◌, ◌∙◌, ◌∷◌, ◌≡◌, ◌≤◌, ◌⊎◌}
use Rattle.std.proofs.lemmas.Bool.{le-ltb, lt-ltb}
use Rattle.std.proofs.lemmas.List.{append-nil, length_push}
use Rattle.std.proofs.lemmas.List.Elements.{All-weaker}
use Rattle.machine_model.specs.Areas.{Bytes}
use Rattle.machine_model.specs.Images.{MayLeave}
use Rattle.machine_model.specs.States.{DiskState, moment}
use Rattle.machine_model.proofs.MomentLemmas.{allowed_left}
use Rattle.base_types.specs.Limits.{limit_of}
use Rattle.base_types.specs.declared.which.Which.TheVariants.{Journal}
use Rattle.lists_versions.specs.Tests.{when}
use Rattle.journal_gates.specs.InStep.{IsInStep}
use Rattle.journal_gates.specs.Records.{gate_bytes}
use Rattle.pages_area.specs.Caches.{Kept, IsHeld, StandsFor as IsCacheOf}
use Rattle.pages_area.specs.Crash.{ChangesOnly}
use Rattle.pages_area.specs.Live.{IsInside}
use Rattle.pages_area.specs.Taken.{HasTaken}
use Rattle.journal_entries.specs.declared.entry.Entry.TheVariants.{Planned}
use Rattle.pages_sublists.specs.Paged.{page_ranges, some_pages}
use Rattle.pages_sublists.specs.Preparing.{extents, pieces}
use Rattle.pages_sublists.proofs.PagedLemmas.{all_left}
use Rattle.pages_sublists.proofs.StintLemmas.{some_change_places}
use Rattle.model_archive.specs.declared.refusal.Refusal.{Refusal}
use Rattle.model_archive.specs.declared.refusal.Refusal.TheVariants as refusals
use Rattle.model_archive.specs.declared.stored.StoredPlan.{StoredPlan}
use Rattle.model_archive.specs.declared.summary.Summary.{Summary}
use Rattle.model_archive.specs.Histories.{History, end_of}
use Rattle.model_archive.specs.Plans.{live_extents, with_plan}
use Rattle.model_archive.specs.Stands.{bodies_of}
use Rattle.model_archive.specs.Steps.{Reply, Finished, Finishes, Refused, Silent, WorksAt, WorksOn, full_journal, stint_pages}
use Rattle.model_archive.specs.Worlds.{Job as ModelJob, World}
use Rattle.model_archive.proofs.HistoryLemmas.{end_of-push}
use Rattle.archive_plans.specs.Shelves.{ShelfState, extents_all}
use Rattle.archive_hand.specs.Changing.{KeepsBy, LeadsBy}
use Rattle.archive_hand.specs.Jobs.{IsUnderWay, IsWaiting, job_pages, places_of, plain_job, written_of}
use Rattle.archive_hand.specs.States.{ArchiveState, AreInStepBy, StandsFor, with_entry}
use Rattle.archive_hand.specs.Stored.{HasSame, StandsBy, Store, StoreStint, Stocks, world_by}
use Rattle.archive_hand.specs.Storing.{HasPutDown, HasStopped}
use Rattle.archive_hand.specs.declared.job.Job.{Job}
use Rattle.archive_hand.proofs.AddLemmas.{bodies_more, step_stays}
use Rattle.archive_hand.proofs.ByReadsLemmas.{all_same, both_same, keeps_leads, keeps_nowhere, no_longer, same_as}
use Rattle.archive_hand.proofs.PutLemmas.{IsThere, begun, begun_keeps, put_there}
use Rattle.archive_hand.proofs.StoreLemmas.{stands_stored}

-- ---- the abstract archive's stint

-- what is being written waits behind what is stored
pub waiting : (a : ArchiveState) (h : History) (job : Job) → a.job ≡ Some job → StandsFor a h → IsWaiting h a.shelf.room job
waiting a h job is stands = subst (IsUnderWay h a.shelf.room) is stands.under_way

pub job_by : (d : DiskState) (a : ArchiveState) (s : Store) (job : Job) → a.job ≡ Some job → AreInStepBy d a s → s.job ≡ plain_job (Some job)
job_by d a s job is in_step = sym in_step.job_is ∙ ap plain_job is

-- the job with these pages written too
abbrev pub further : Job → Job
further job = record job { written = job.written + 8 }

works_on : (w next : World) (m : ModelJob) (b : Bool) → w.job ≡ Some m → nat_lt stint_pages m.left ≡ b → (reply : Reply) → WorksOn b w m reply next → WorksAt w w.job reply next
works_on w next m b is more reply works =
    subst (λ (o : Option ModelJob). WorksAt w o reply next) (sym is) (subst (λ (t : Bool). WorksOn t w m reply next) (sym more) works)

pub works_wrote : (s next : Store) (job : Job) → s.job ≡ plain_job (Some job) → 8 < job.pages - job.written → next.history ≡ s.history → next.asked ≡ s.asked → next.job ≡ plain_job (Some (further job)) → WorksAt (world_by s) s.job Silent (world_by next)
works_wrote s next job is more history asked goal =
    let left : job.pages - job.written - 8 ≡ job.pages - (job.written + 8) = omega arith in
    let m : ModelJob = record { plan = job.ready.stored.plan; space = job.ready.summary.space; full = job.ready.summary.full; left = job.pages - job.written } in
    let on : next.job ≡ Some (record m { left = m.left - 8 }) = goal ∙ ap (λ (n : ℕ). Some (record m { left = n })) (sym left) in
    works_on (world_by s) (world_by next) m true is (lt-ltb 8 (job.pages - job.written) more) Silent ((λ i. record { history = history i; asked = asked i; job = on i }), refl)

-- a job whose last pages are left
last_works : (s next : Store) (job : Job) (reply : Reply) → s.job ≡ plain_job (Some job) → job.pages - job.written ≤ 8 → (refusal : Option Refusal) → full_journal s.history (Planned job.ready.stored.plan) ≡ refusal
    → Finishes (world_by s) (record { plan = job.ready.stored.plan; space = job.ready.summary.space; full = job.ready.summary.full; left = job.pages - job.written }) refusal reply (world_by next) → WorksAt (world_by s) s.job reply (world_by next)
last_works s next job reply is last refusal room finishes =
    let m : ModelJob = record { plan = job.ready.stored.plan; space = job.ready.summary.space; full = job.ready.summary.full; left = job.pages - job.written } in
    works_on (world_by s) (world_by next) m false is (le-ltb 8 (job.pages - job.written) last) reply
    (subst (λ (o : Option Refusal). Finishes (world_by s) m o reply (world_by next)) (sym room) finishes)

pub works_done : (s next : Store) (job : Job) (told : Summary) → s.job ≡ plain_job (Some job) → job.pages - job.written ≤ 8 → end_of (s.history ++ Planned job.ready.stored.plan ∷ []) ≤ limit_of Journal
    → next.history ≡ s.history ++ Planned job.ready.stored.plan ∷ [] → next.asked ≡ s.asked → next.job ≡ None
    → told ≡ record { length = length (s.history ++ Planned job.ready.stored.plan ∷ []); segments = length job.ready.stored.plan.cuts; space = job.ready.summary.space; full = job.ready.summary.full; horizon = job.ready.stored.plan.horizon; cost = None }
    → WorksAt (world_by s) s.job (Finished told) (world_by next)
works_done s next job told is last fits history asked none tells =
    last_works s next job (Finished told) is last None (ap (λ (b : Bool). when b (refusals.Full Journal (limit_of Journal))) (le-ltb (limit_of Journal) (end_of (s.history ++ Planned job.ready.stored.plan ∷ [])) fits))
    ((λ i. record { history = history i; asked = asked i; job = none i }), ap Finished tells)

pub works_dropped : (s next : Store) (job : Job) (why : Refusal) → s.job ≡ plain_job (Some job) → job.pages - job.written ≤ 8 → limit_of Journal < end_of (s.history ++ Planned job.ready.stored.plan ∷ [])
    → next.history ≡ s.history → next.asked ≡ s.asked → next.job ≡ None → why ≡ refusals.Full Journal (limit_of Journal) → WorksAt (world_by s) s.job (Refused why) (world_by next)
works_dropped s next job why is last full history asked none because =
    last_works s next job (Refused why) is last (Some (refusals.Full Journal (limit_of Journal)))
    (ap (λ (b : Bool). when b (refusals.Full Journal (limit_of Journal))) (lt-ltb (limit_of Journal) (end_of (s.history ++ Planned job.ready.stored.plan ∷ [])) full))
    ((λ i. record { history = history i; asked = asked i; job = none i }), ap Refused because)

-- ---- a stint that leaves pages

-- the job's pages are written, and more of them
abbrev pub went_on : ArchiveState → Job → ArchiveState
went_on a job = record a { live = true; job = Some (further job) }

pub stands_on : (a : ArchiveState) (h : History) (job : Job) → a.job ≡ Some job → 8 < job.pages - job.written → StandsFor a h → StandsFor (went_on a job) h
stands_on a h job is more stands =
    let waits = waiting a h job is stands in
    record {
      loadable = stands.loadable;
      end_is = stands.end_is;
      length_is = stands.length_is;
      changes_are = stands.changes_are;
      index_is = stands.index_is;
      plans_are = stands.plans_are;
      pages_are = rw is at stands.pages_are;
      marked_is = stands.marked_is;
      under_way = record {
        storable = waits.storable;
        pages_are = waits.pages_are;
        bytes_are = waits.bytes_are;
        within = omega (arith, more);
        room = waits.room;
        segments = waits.segments;
        horizon = waits.horizon;
        cost = waits.cost;
      };
    }

-- what is stored behind it
abbrev pub store_on : Store → Job → DiskState → Store
store_on s job d = record s { pages = d.holds.pages; read = d.bytes_read.pages; job = plain_job (Some (further job)) }

-- where the disk fails all is as it was
pub stint_keeps : (s : Store) (a : ArchiveState) (job : Job) (old new : DiskState) → AreInStepBy old a s → a.job ≡ Some job → ChangesOnly (page_ranges (some_pages job.written 8 job.ready.prepared)) old new → KeepsBy s old new
stint_keeps s a job old new in_step is changes =
    let ready = job.ready in
    let storable = (waiting a s.history job is in_step.stands).storable in
    begun_keeps s ready.stored.plan ready.prepared ready.frame old new a in_step storable
    (begun (bodies_of s.history) (pieces ready.prepared) a.end old new in_step.journal (some_change_places ready.prepared.places ready.prepared.spellings 8 job.written old new storable.each changes))

pub stint_wrote : (s : Store) (a : ArchiveState) (job : Job) (old new : DiskState) → AreInStepBy old a s → a.job ≡ Some job → 8 < job.pages - job.written → ChangesOnly (page_ranges (some_pages job.written 8 job.ready.prepared)) old new
    → MayLeave new.now new.holds → IsCacheOf (a.shelf.cache ++ take (job.written + 8) (job_pages job)) new.holds.pages
    → (next : Store) × StoreStint s Silent next × LeadsBy s next old new × AreInStepBy new (went_on a job) next
stint_wrote s a job old new in_step is more changes allowed cached =
    let keeps = stint_keeps s a job old new in_step is changes in
    let live = live_extents s.history in
    let stood : (image : Bytes) → MayLeave new.now image → StandsBy s image = λ image left. (keeps.images image new.now.beside (allowed_left new (moment old) image left)).0 in
    let same : All (HasSame s.pages new.holds.pages) live = (stood new.holds allowed).same in (
      store_on s job new,
      (
        works_wrote s (store_on s job new) job (job_by old a s job is in_step) more refl refl refl,
        record { same = same; apart = in_step.live.1; held = λ plan longer. absurd (no_longer s.history plan longer); asked = refl },
      ),
      keeps_leads s (store_on s job new) old new keeps,
      record {
        stands = stands_on a s.history job is more in_step.stands;
        asked_are = in_step.asked_are;
        journal = step_stays (page_ranges (some_pages job.written 8 job.ready.prepared)) old new a.end (bodies_of s.history) changes in_step.journal;
        pages_are = refl;
        kept_are = in_step.kept_are;
        read_is = refl;
        job_is = refl;
        live = (All-weaker (HasSame s.pages new.holds.pages) (IsInside (length new.holds.pages)) (λ e has. has.0) live same, in_step.live.1);
        same = λ image left. both_same s.pages new.holds.pages image.pages live same (stood image left).same;
        cached = cached;
      },
    )

-- ---- the last stint

-- where the entry has no room the plan is let go
abbrev pub let_go : ArchiveState → ShelfState → ArchiveState
let_go a shelf = record a { live = true; shelf = shelf; job = None }

pub stands_without : (a : ArchiveState) (h : History) (shelf : ShelfState) → shelf.plans ≡ a.shelf.plans → HasTaken shelf.pages (live_extents h) → StandsFor a h → StandsFor (let_go a shelf) h
stands_without a h shelf plans pages stands = record {
  loadable = stands.loadable;
  end_is = stands.end_is;
  length_is = stands.length_is;
  changes_are = stands.changes_are;
  index_is = stands.index_is;
  plans_are = plans ∙ stands.plans_are;
  pages_are = pages;
  marked_is = stands.marked_is;
  under_way = tt;
}

-- what is taken beside the live plans is the job's
pub job_taken : (a : ArchiveState) (h : History) (job : Job) → a.job ≡ Some job → StandsFor a h → HasTaken a.shelf.pages (extents job.ready.prepared.places ++ live_extents h)
job_taken a h job is stands = subst (λ (o : Option Job). HasTaken a.shelf.pages (places_of o ++ live_extents h)) is stands.pages_are

pub stint_dropped : (s : Store) (a : ArchiveState) (job : Job) (shelf : ShelfState) (why : Refusal) (d : DiskState) → AreInStepBy d a s → a.job ≡ Some job → job.pages - job.written ≤ 8
    → limit_of Journal < a.end + gate_bytes + job.ready.bytes → shelf.plans ≡ a.shelf.plans → shelf.cache ≡ a.shelf.cache → HasTaken shelf.pages (live_extents s.history) → why ≡ refusals.Full Journal (limit_of Journal)
    → (next : Store) × StoreStint s (Refused why) next × LeadsBy s next d d × AreInStepBy d (let_go a shelf) next
stint_dropped s a job shelf why d in_step is last full plans cache pages because =
    let waits = waiting a s.history job is in_step.stands in
    let plan = job.ready.stored.plan in
    let next : Store = record s { job = None } in (
      next,
      (
        works_dropped s next job why (job_by d a s job is in_step) last (omega (arith, full, in_step.stands.end_is, waits.bytes_are, end_of-push s.history (Planned plan), ap length waits.storable.framed)) refl refl refl because,
        record { same = all_same s.pages (live_extents s.history) in_step.live.0; apart = in_step.live.1; held = λ other longer. absurd (no_longer s.history other longer); asked = refl },
      ),
      keeps_leads s next d d (keeps_nowhere d a s in_step),
      record {
        stands = stands_without a s.history shelf plans pages in_step.stands;
        asked_are = in_step.asked_are;
        journal = in_step.journal;
        pages_are = in_step.pages_are;
        kept_are = cache ∙ in_step.kept_are;
        read_is = in_step.read_is;
        job_is = refl;
        live = in_step.live;
        same = in_step.same;
        cached = subst (λ (ks : List Kept). IsCacheOf (ks ++ []) d.holds.pages) (sym cache)
            (subst (λ (ks : List Kept). IsCacheOf ks d.holds.pages) (sym (append-nil a.shelf.cache)) (all_left (IsHeld d.holds.pages) a.shelf.cache (written_of a.job) in_step.cached));
      },
    )

-- the plan is stored, in the place of its word's
abbrev pub plan_now : ArchiveState → Job → StoredPlan
plan_now a job = record { gate = a.end - 1; plan = job.ready.stored.plan }

abbrev pub finished : ArchiveState → ℕ → ShelfState → ArchiveState
finished a end shelf = record a { end = end; live = true; length = a.length + 1; shelf = shelf; job = None }

pub stands_finished : (a : ArchiveState) (h : History) (job : Job) (end : ℕ) (shelf : ShelfState) → a.job ≡ Some job → end ≡ a.end + gate_bytes + length job.ready.frame → shelf.plans ≡ with_plan a.shelf.plans (plan_now a job)
    → HasTaken shelf.pages (extents_all shelf.plans) → StandsFor a h → StandsFor (finished a end shelf) (h ++ Planned job.ready.stored.plan ∷ [])
stands_finished a h job end shelf is ends plans pages stands =
    let storable = (waiting a h job is stands).storable in
    stands_stored a h (plan_now a job) job.ready.frame end shelf None stands storable.entry storable.framed (omega (arith, stands.end_is)) ends plans pages tt

-- what is told of it
told_done : (h : History) (room count : ℕ) (job : Job) (told : Summary) → IsWaiting h room job → count ≡ length h → told ≡ record (job.ready.summary) { length = count + 1 }
    → told ≡ record { length = length (h ++ Planned job.ready.stored.plan ∷ []); segments = length job.ready.stored.plan.cuts; space = job.ready.summary.space; full = job.ready.summary.full; horizon = job.ready.stored.plan.horizon; cost = None }
told_done h room count job told waits many is =
    let one : count + 1 ≡ length (h ++ Planned job.ready.stored.plan ∷ []) = omega (arith, many, length_push h (Planned job.ready.stored.plan)) in
    is ∙ (λ i. record { length = one i; segments = waits.segments i; space = job.ready.summary.space; full = job.ready.summary.full; horizon = waits.horizon i; cost = waits.cost i })

-- what the plan's places have leads to it
leads_idle : (s t : Store) (old new : DiskState) → LeadsBy s t old new → LeadsBy s (record t { job = None }) old new
leads_idle s t old new leads = record {
  goes_on = leads.goes_on;
  images = λ image beside left.
      let was = leads.images image beside left in
      (elim was.0 [ inl before ↦ inl before | inr after ↦ inr (record { spelled = after.spelled; same = after.same }) ], was.1);
}

stocks_idle : (s t : Store) → Stocks s t → Stocks s (record t { job = None })
stocks_idle s t stocks = record { same = stocks.same; apart = stocks.apart; held = stocks.held; asked = stocks.asked }

-- the stint that stores it, whatever came of the disk behind it
done_stint : (s : Store) (a b : ArchiveState) (job : Job) (pages : List ℕ) (told : Summary) (old new : DiskState) → AreInStepBy old a s → a.job ≡ Some job → job.pages - job.written ≤ 8 → a.end + gate_bytes + length job.ready.frame ≤ limit_of Journal
    → told ≡ record (job.ready.summary) { length = a.length + 1 } → IsThere s job.ready.stored.plan pages old new b
    → (let next = record (with_entry s (Planned job.ready.stored.plan) pages b new) { job = None } in StoreStint s (Finished told) next × LeadsBy s next old new)
done_stint s a b job pages told old new in_step is last fits tells there =
    let waits = waiting a s.history job is in_step.stands in
    let plan = job.ready.stored.plan in
    let t : Store = with_entry s (Planned plan) pages b new in (
      (
        works_done s (record t { job = None }) job told (job_by old a s job is in_step) last (omega (arith, fits, in_step.stands.end_is, end_of-push s.history (Planned plan), ap length waits.storable.framed)) refl refl refl
            (told_done s.history a.shelf.room a.length job told waits in_step.stands.length_is tells),
        stocks_idle s t there.stocks,
      ),
      leads_idle s t old new there.leads,
    )

pub stint_done : (s : Store) (a : ArchiveState) (job : Job) (end : ℕ) (shelf : ShelfState) (told : Summary) (old new : DiskState) → AreInStepBy old a s → a.job ≡ Some job → job.pages - job.written ≤ 8
    → a.end + gate_bytes + length job.ready.frame ≤ limit_of Journal → end ≡ a.end + gate_bytes + length job.ready.frame → shelf.plans ≡ with_plan a.shelf.plans (plan_now a job) → HasTaken shelf.pages (extents_all shelf.plans)
    → told ≡ record (job.ready.summary) { length = a.length + 1 } → HasPutDown (bodies_of s.history) job.ready.frame (pieces job.ready.prepared) old new → IsInStep new end (bodies_of s.history ++ job.ready.frame ∷ [])
    → IsCacheOf shelf.cache new.holds.pages → (next : Store) × StoreStint s (Finished told) next × LeadsBy s next old new × AreInStepBy new (finished a end shelf) next
stint_done s a job end shelf told old new in_step is last fits ends plans taken tells put entered cached =
    let h = s.history in
    let plan = job.ready.stored.plan in
    let pages = new.holds.pages in
    let b = finished a end shelf in
    let storable = (waiting a h job is in_step.stands).storable in
    let there = put_there s plan job.ready.prepared job.ready.frame pages old new a b in_step storable put.0 in
    let done = done_stint s a b job pages told old new in_step is last fits tells there in (
      record (with_entry s (Planned plan) pages b new) { job = None },
      done.0,
      done.1,
      record {
        stands = stands_finished a h job end shelf is ends plans taken in_step.stands;
        asked_are = in_step.asked_are;
        journal = rw (← bodies_more h (Planned plan) job.ready.frame storable.framed) entered;
        pages_are = refl;
        kept_are = refl;
        read_is = refl;
        job_is = refl;
        live = (there.inside, there.stocks.apart);
        same = λ image allowed. same_as pages pages image.pages (live_extents (h ++ Planned plan ∷ [])) (put.1 image allowed) (all_same pages (live_extents (h ++ Planned plan ∷ [])) there.inside);
        cached = subst (λ (ks : List Kept). IsCacheOf ks pages) (sym (append-nil shelf.cache)) cached;
      },
    )

-- where the disk failed in it, all is as it was, or there is what would have come
pub stint_stopped : (s : Store) (a : ArchiveState) (job : Job) (old new : DiskState) → AreInStepBy old a s → a.job ≡ Some job → job.pages - job.written ≤ 8 → a.end + gate_bytes + length job.ready.frame ≤ limit_of Journal
    → HasStopped (bodies_of s.history) job.ready.frame (pieces job.ready.prepared) old new → KeepsBy s old new ⊎ ((told : Summary) × (next : Store) × StoreStint s (Finished told) next × LeadsBy s next old new)
stint_stopped s a job old new in_step is last fits stopped =
    let h = s.history in
    let plan = job.ready.stored.plan in
    let told : Summary = record (job.ready.summary) { length = a.length + 1 } in
    let storable = (waiting a h job is in_step.stands).storable in
    elim stopped [
      | inl started ↦ inl (begun_keeps s plan job.ready.prepared job.ready.frame old new a in_step storable started)
      | inr put ↦
          let there = put_there s plan job.ready.prepared job.ready.frame put.0 old new a a in_step storable put.1 in
          let done = done_stint s a a job put.0 told old new in_step is last fits refl there in
          inr (told, record (with_entry s (Planned plan) put.0 a new) { job = None }, done.0, done.1)
    ]
