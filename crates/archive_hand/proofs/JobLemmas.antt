-- A plan that is being written goes on waiting, and its pages hold what was written.
use Rattle.std.proofs.Common.{All, IsSome, List, None, Option, Some, [], ap, arith, inl, inr, length, refl, subst, sym, take, ℕ, ◌*◌, ◌++◌, ◌+◌, ◌∷◌, ◌≡◌, ◌≤◌}
use Rattle.std.specs.List.{AllZip}
use Rattle.std.proofs.lemmas.List.Elements.{All-append, All-nil, All-take, All-weaker}
use Rattle.base_types.specs.declared.extent.Extent.{Extent}
use Rattle.machine_model.specs.States.{DiskState}
use Rattle.pages_area.specs.Caches.{Kept, IsHeld, StandsFor as IsCacheOf}
use Rattle.pages_area.specs.Runs.{IsTaken}
use Rattle.pages_area.specs.Taken.{AreApart, HasTaken, PagesState}
use Rattle.pages_area.specs.Wrote.{Stored, extents_of}
use Rattle.pages_area.proofs.CacheLawLemmas.{writes-stand}
use Rattle.pages_area.proofs.StayLemmas.{apart_parts, taken_left, taken_right}
use Rattle.journal_entries.specs.declared.entry.Entry.{Entry}
use Rattle.journal_entries.specs.declared.entry.Entry.TheVariants.{Planned}
use Rattle.journal_entries.specs.declared.place.Place.{Place}
use Rattle.journal_entries.specs.declared.plan.PlanEntry.{PlanEntry}
use Rattle.pages_sublists.specs.Paged.{ReachPages}
use Rattle.pages_sublists.specs.Preparing.{IsFor, PreparedState, extents, pieces}
use Rattle.pages_sublists.proofs.PagedLemmas.{all_left, all_right, pages_lie}
use Rattle.model_archive.specs.Histories.{History, entry_refusal}
use Rattle.model_archive.specs.Plans.{live_extents, live_plans}
use Rattle.model_archive.specs.Worlds.{Job as ModelJob, taken_in}
use Rattle.model_archive.specs.declared.stored.StoredPlan.{StoredPlan}
use Rattle.model_archive.proofs.HoldLemmas.{piece_extents}
use Rattle.model_archive.proofs.LiveLemmas.{later_push, list_later}
use Rattle.model_archive.proofs.StoringLemmas.{job_later}
use Rattle.archive_plans.specs.Shelves.{extents_all}
use Rattle.archive_hand.specs.Jobs.{IsUnderWay, IsWaiting, job_pages, places_of, plain_job, written_of}
use Rattle.archive_hand.specs.Storing.{IsStorable}
use Rattle.archive_hand.specs.declared.job.Job.{Job}

-- what may be stored may be so behind one entry more, where its places share no page with the live ones then
storable_later : (h : History) (e : Entry) (plan : PlanEntry) (prepared : PreparedState) (frame : List ℕ) → entry_refusal h e ≡ None → AreApart (extents prepared.places ++ live_extents (h ++ e ∷ []))
    → IsStorable h plan prepared frame → IsStorable (h ++ e ∷ []) plan prepared frame
storable_later h e plan prepared frame allowed apart is =
    let job : ModelJob = record { plan = plan; space = 0; full = 0; left = 0 } in
    record {
      entry = job_later h e (Some job) allowed is.entry;
      framed = is.framed;
      places = is.places;
      list = is.list;
      list_is = list_later h (h ++ e ∷ []) plan.word plan.horizon.seconds is.list (later_push h e allowed) is.entry.planned.past is.list_is;
      spelled = is.spelled;
      each = is.each;
      apart = apart;
    }

pub waits_later : (h : History) (e : Entry) (room more : ℕ) (job : Job) → entry_refusal h e ≡ None → AreApart (extents job.ready.prepared.places ++ live_extents (h ++ e ∷ [])) → 1 ≤ more → IsWaiting h room job → IsWaiting (h ++ e ∷ []) more job
waits_later h e room more job allowed apart some is = record {
  storable = storable_later h e job.ready.stored.plan job.ready.prepared job.ready.frame allowed apart is.storable;
  pages_are = is.pages_are;
  bytes_are = is.bytes_are;
  within = is.within;
  room = some;
  segments = is.segments;
  horizon = is.horizon;
  cost = is.cost;
}

-- so it waits on behind an entry that leaves the live plans
pub under_way_on : (h : History) (e : Entry) (room : ℕ) (job : Option Job) → entry_refusal h e ≡ None → live_plans (h ++ e ∷ []) ≡ live_plans h → IsUnderWay h room job → IsUnderWay (h ++ e ∷ []) room job
under_way_on h e room None allowed same is = tt
under_way_on h e room (Some job) allowed same is =
    waits_later h e room room job allowed (subst (λ (l : List StoredPlan). AreApart (extents job.ready.prepared.places ++ extents_all l)) (sym same) is.storable.apart) is.room is

-- and behind a plan that is stored, from whose places its own are apart
pub under_way_planned : (h : History) (plan : PlanEntry) (room more : ℕ) (job : Option Job) (pages : PagesState) → HasTaken pages (places_of job ++ live_extents (h ++ Planned plan ∷ [])) → (IsSome job → 1 ≤ more) → IsUnderWay h room job
    → IsUnderWay (h ++ Planned plan ∷ []) more job
under_way_planned h plan room more None pages taken some is = tt
under_way_planned h plan room more (Some job) pages taken some is = waits_later h (Planned plan) room more job refl taken.apart (some refl) is

-- a disk that reached pages reaches them on
pub reach_on : (n m : ℕ) (ks : List Kept) → n ≤ m → ReachPages n ks → ReachPages m ks
reach_on n m ks more reached = All-weaker (λ k. k.page * 4096 + length k.bytes ≤ n) (λ k. k.page * 4096 + length k.bytes ≤ m) (λ k is. omega (arith, is, more)) ks reached

-- what is kept and what was written, apart
pub both_stand : (cache written : List Kept) (pages : List ℕ) → IsCacheOf cache pages → IsCacheOf written pages → IsCacheOf (cache ++ written) pages
both_stand cache written pages one two = All-append (IsHeld pages) cache written one two

pub kept_part : (cache written : List Kept) (pages : List ℕ) → IsCacheOf (cache ++ written) pages → IsCacheOf cache pages
kept_part cache written pages both = all_left (IsHeld pages) cache written both

pub written_part : (cache written : List Kept) (pages : List ℕ) → IsCacheOf (cache ++ written) pages → IsCacheOf written pages
written_part cache written pages both = all_right (IsHeld pages) cache written both

-- pages that sublists don't lie in are as they were once these are stored
pub others_stay : (ks : List Kept) (prepared : PreparedState) (old new : DiskState) → All (λ k. IsTaken (extents_of (pieces prepared)) k.page → ⊥) ks → Stored (pieces prepared) old new
    → IsCacheOf ks old.holds.pages → IsCacheOf ks new.holds.pages
others_stay ks prepared old new apart stored stands = writes-stand ks (extents_of (pieces prepared)) old.holds.pages new.holds.pages apart stored.wrote.elsewhere stands

-- what it takes is what the abstract archive knows
pub taken_same : (h : History) (room : ℕ) (job : Option Job) → IsUnderWay h room job → places_of job ++ live_extents h ≡ taken_in (plain_job job) h
taken_same h room None is = refl
taken_same h room (Some job) is = ap (λ (ps : List Place). extents ps ++ live_extents h) (sym is.storable.places)

pub under_way_more : (h : History) (room more : ℕ) (job : Option Job) → room ≤ more → IsUnderWay h room job → IsUnderWay h more job
under_way_more h room more None wider is = tt
under_way_more h room more (Some job) wider is = record { storable = is.storable; pages_are = is.pages_are; bytes_are = is.bytes_are; within = is.within; room = omega (arith, wider, is.room); segments = is.segments; horizon = is.horizon; cost = is.cost }

-- extents in the middle left out
taken_more : (xs ys zs : List Extent) (p : ℕ) → IsTaken (xs ++ zs) p → IsTaken (xs ++ (ys ++ zs)) p
taken_more [] ys zs p taken = taken_right ys zs p taken
taken_more (x ∷ xs) ys zs p (inl mine) = inl mine
taken_more (x ∷ xs) ys zs p (inr taken) = inr (taken_more xs ys zs p taken)

pub apart_without : (xs ys zs : List Extent) → AreApart (xs ++ (ys ++ zs)) → AreApart (xs ++ zs)
apart_without [] ys zs apart = (apart_parts ys zs apart).1
apart_without (x ∷ xs) ys zs apart = ((λ p mine taken. apart.0 p mine (taken_more xs ys zs p taken)), apart_without xs ys zs apart.1)

-- so they are apart from sublists for which other places were taken
pub written_apart : (h : History) (room : ℕ) (job : Option Job) (prepared : PreparedState) (live : List Extent) → IsUnderWay h room job → AllZip IsFor prepared.places prepared.spellings → AreApart (extents prepared.places ++ (places_of job ++ live))
    → All (λ k. IsTaken (extents_of (pieces prepared)) k.page → ⊥) (written_of job)
written_apart h room None prepared live is each apart = All-nil (λ (k : Kept). IsTaken (extents_of (pieces prepared)) k.page → ⊥)
written_apart h room (Some job) prepared live is each apart =
    let same : extents_of (pieces prepared) ≡ extents prepared.places = piece_extents prepared.places prepared.spellings each in
    let own = extents job.ready.prepared.places in
    let U : List Extent → Type 0 = λ es. All (λ k. IsTaken es k.page → ⊥) (take job.written (job_pages job)) in
    let from = (apart_parts (extents prepared.places) (own ++ live) apart).0 in
    subst U (sym same) (All-take (λ (k : Kept). IsTaken (extents prepared.places) k.page → ⊥) job.written (job_pages job)
    (All-weaker (λ (k : Kept). IsTaken own k.page) (λ (k : Kept). IsTaken (extents prepared.places) k.page → ⊥) (λ k mine other. from k.page other (taken_left own live k.page mine))
    (job_pages job) (pages_lie job.ready.prepared.places job.ready.prepared.spellings is.storable.each)))
