-- A plan of another archive: when it may be taken, and what is known once it was to be stored in its own places.
use Rattle.std.proofs.Common.{◌≡◌, ◌⊎◌, ◌↔◌, ℕ, zero, suc, ◌+◌, ◌<◌, List, [], ◌∷◌, ◌++◌, length, take, get_or, All, Option, None, Result, Ok, Err, IsOk, IfOk, IsTrue, inl, inr, refl, ap, sym, subst, arith}
use Rattle.std.specs.List.{AllZip}
use Rattle.std.proofs.lemmas.Bool.{false≢true}
use Rattle.machine_model.specs.Causes.{Rose}
use Rattle.journal_entries.specs.PlanSpelling.{IsPlanEntry}
use Rattle.archive_hand.specs.Adding.{IsSpent}
use Rattle.archive_hand.specs.Changing.{KeepsBy}
use Rattle.archive_hand.specs.Jobs.{plain_job}
use Rattle.archive_hand.specs.States.{ArchiveState, AreInStepBy, CacheStands, Reaches, StandsFor}
use Rattle.archive_hand.specs.Stored.{Store}
use Rattle.archive_hand.specs.declared.job.Job.{Job}
use Rattle.archive_hand.specs.declared.storing_at.PutError.{PutError}
use Rattle.archive_hand.specs.declared.storing_at.PutError.TheVariants as puts
use Rattle.model_archive.specs.Worlds.{taken_in}
use Rattle.archive_follow.specs.declared.error.TakeEntryError.TheVariants as takes
use Rattle.std.proofs.lemmas.List.Elements.{All-cons, All-nil}
use Rattle.base_types.specs.declared.extent.Extent.{Extent}
use Rattle.base_types.specs.declared.posting.Posting.{Posting}
use Rattle.lists_postings.proofs.Clipping.{one_list_of}
use Rattle.machine_model.specs.States.{DiskState}
use Rattle.journal_entries.specs.Spelling.{spelling}
use Rattle.journal_entries.specs.declared.entry.Entry.TheVariants.{Planned}
use Rattle.journal_entries.specs.declared.place.Place.{Place}
use Rattle.journal_entries.specs.declared.plan.PlanEntry.{PlanEntry}
use Rattle.pages_area.specs.Runs.{IsPageOf, IsTaken}
use Rattle.pages_area.specs.Taken.{AreApart}
use Rattle.pages_area.proofs.StayLemmas.{taken_left, taken_right}
use Rattle.pages_sublists.specs.PlacedAt.{IsPlaceFault}
use Rattle.pages_sublists.specs.Preparing.{IsFor, extents}
use Rattle.pages_sublists.specs.declared.why.PlaceError.{PlaceError}
use Rattle.pages_sublists.specs.declared.why.PlaceError.TheVariants.{Differs, Taken, Memory}
use Rattle.model_archive.specs.Answers.{frequency_at}
use Rattle.model_archive.specs.Histories.{History, end_of}
use Rattle.model_archive.specs.Planning.{IsListUpTo}
use Rattle.model_archive.specs.Plans.{live_extents}
use Rattle.model_archive.proofs.HistoryLemmas.{end_of-push}
use Rattle.archive_plans.specs.ReadyingAt.{IsUntaken, sublists_of}
use Rattle.archive_hand.specs.StoringAt.{HasOwnPlaces, IsPutBy}
use Rattle.model_follow.specs.Taking.{MayBeTaken}
use Rattle.archive_follow.specs.Taken.{AfterTaking, ComesBehind, IsFoundOf, IsProper, MayBePut, Takes, TakesBody, TakesBy, as_put}
use Rattle.archive_follow.proofs.TakenLemmas.{spells_no_next, spent_but}

-- ---- a plan that may be taken

pub may_put : (h : History) (plan : PlanEntry) (list : List Posting) → MayBePut h plan list → HasOwnPlaces None h plan list → MayBeTaken h (Planned plan)
may_put h plan list put own = record {
  legal = put.legal;
  placed = record { list = list; list_is = put.list_is; each = own.each; apart = own.apart; later = put.later };
  fits = own.fits;
}

-- and what holds of it
pub put_may : (h : History) (plan : PlanEntry) → (may : MayBeTaken h (Planned plan)) → MayBePut h plan may.placed.list
put_may h plan may = record { legal = may.legal; list_is = may.placed.list_is; later = may.placed.later }

all_proper : (places : List Place) (all : List (List ℕ)) → AllZip IsFor places all → All IsProper places
all_proper [] [] zip = All-nil IsProper
all_proper [] (bytes ∷ all) zip = absurd zip
all_proper (p ∷ places) [] zip = absurd zip
all_proper (p ∷ places) (bytes ∷ all) zip = All-cons IsProper p places zip.0.empty (all_proper places all zip.1)

pub may_proper : (h : History) (plan : PlanEntry) → MayBeTaken h (Planned plan) → All IsProper plan.places
may_proper h plan may = all_proper plan.places (sublists_of plan may.placed.list) may.placed.each

-- ---- places that can't be taken

zip_at : (places : List Place) (all : List (List ℕ)) (k : ℕ) (place : Place) (bytes : List ℕ) → AllZip IsFor places all → k < length places → place ≡ get_or places k place → bytes ≡ get_or all k bytes → IsFor place bytes
zip_at [] all k place bytes zip within one two = absurd (omega (arith, within))
zip_at (p ∷ places) [] k place bytes zip within one two = absurd zip
zip_at (p ∷ places) (b ∷ all) zero place bytes zip within one two = subst (λ (q : Place). IsFor q bytes) (sym one) (subst (λ (l : List ℕ). IsFor p l) (sym two) zip.0)
zip_at (p ∷ places) (b ∷ all) (suc k) place bytes zip within one two = zip_at places all k place bytes zip.1 (omega (arith, within)) one two

page_at : (places : List Place) (k : ℕ) (place : Place) (page : ℕ) → k < length places → place ≡ get_or places k place → IsPageOf place.extent page → IsTaken (extents places) page
page_at [] k place page within one mine = absurd (omega (arith, within))
page_at (q ∷ places) zero place page within one mine = inl (subst (λ (x : Place). IsPageOf x.extent page) one mine)
page_at (q ∷ places) (suc k) place page within one mine = inr (page_at places k place page (omega (arith, within)) one mine)

apart_at : (places : List Place) (taken : List Extent) (k : ℕ) (place : Place) (page : ℕ) → AreApart (extents places ++ taken) → k < length places → place ≡ get_or places k place → IsPageOf place.extent page
    → IsTaken (extents (take k places) ++ taken) page → ⊥
apart_at [] taken k place page apart within one mine other = omega (arith, within)
apart_at (q ∷ places) taken zero place page apart within one mine other =
    apart.0 page (subst (λ (x : Place). IsPageOf x.extent page) one mine) (taken_right (extents places) taken page other)
apart_at (q ∷ places) taken (suc k) place page apart within one mine (inl here) =
    apart.0 page here (taken_left (extents places) taken page (page_at places k place page (omega (arith, within)) one mine))
apart_at (q ∷ places) taken (suc k) place page apart within one mine (inr more) = apart_at places taken k place page apart.1 (omega (arith, within)) one mine more

fault_never : (taken : List Extent) (places : List Place) (all : List (List ℕ)) (why : PlaceError) → (why ≡ Memory → ⊥) → AllZip IsFor places all → AreApart (extents places ++ taken) → IsPlaceFault taken places all why → ⊥
fault_never taken places all (Differs k) other each apart (place, bytes, next, never) =
    let is = zip_at places all k place bytes each next.within next.place_is next.bytes_are in
    never (is.size, is.digest)
fault_never taken places all (Taken k) other each apart (place, bytes, next, suits, page, mine, more) = apart_at places taken k place page apart next.within next.place_is mine more
fault_never taken places all Memory other each apart fault = other refl

-- a plan that isn't made ready may not be taken
pub untaken_never : (h : History) (plan : PlanEntry) (list : List Posting) (end bytes : ℕ) → end ≡ end_of h → bytes ≡ length (spelling (Planned plan)) → IsListUpTo h plan.word plan.horizon.seconds list
    → IsUntaken plan list (live_extents h) end bytes → MayBeTaken h (Planned plan) → ⊥
untaken_never h plan list end bytes end_is long list_is (inl (why, other, fault)) may =
    let same : may.placed.list ≡ list =
    one_list_of (λ doc t. frequency_at h plan.word (record { 0 = doc }) t) 0 plan.horizon.seconds may.placed.list list may.placed.list_is list_is in
    let each : AllZip IsFor plan.places (sublists_of plan list) = subst (λ (l : List Posting). AllZip IsFor plan.places (sublists_of plan l)) same may.placed.each in
    fault_never (live_extents h) plan.places (sublists_of plan list) why other each may.placed.apart fault
untaken_never h plan list end bytes end_is long list_is (inr over) may = omega (arith, over, end_is, long, end_of-push h (Planned plan), may.fits)

-- what is known of a plan that isn't found
pub unfound_never : (h : History) (plan : PlanEntry) → IsFoundOf h plan None → MayBeTaken h (Planned plan) → ⊥
unfound_never h plan none may = none may.placed.list (put_may h plan may)

-- ---- what is known once it was to be stored

pub put_after : (tells uncalled : Type 0) (r : Result ℕ PutError) (d e : DiskState) (old new : ArchiveState) → (r ≡ Err puts.Failed → Rose d.faults e.faults) → Reaches e.reach new → (IsTrue new.live ↔ (IsOk r ⊎ (r ≡ Err puts.NoRoom)))
    → ((r ≡ Err puts.NoRoom) ⊎ (r ≡ Err puts.Memory) → uncalled) → (tells → CacheStands d old → IsOk r ⊎ (r ≡ Err puts.NoRoom) → CacheStands e new) → ((r ≡ Err puts.Memory) ⊎ (r ≡ Err puts.Failed) → IsSpent old new)
    → AfterTaking tells uncalled (as_put r) d e old new
put_after tells uncalled (Ok n) d e old new failed within live same cached spent = record {
  failed = λ is. absurd cc;
  within = within;
  live = (λ yes. inl refl, λ done. live.1 (inl refl));
  same = λ is. absurd (elim is [ inl one ↦ cc | inr other ↦ cc ]);
  cached = λ told stands done. cached told stands (inl refl);
  spent = λ is. absurd (elim is [ inl one ↦ cc | inr other ↦ cc ]);
}
put_after tells uncalled (Err puts.NoRoom) d e old new failed within live same cached spent = record {
  failed = λ is. absurd cc;
  within = within;
  live = (λ yes. inr refl, λ done. live.1 (inr refl));
  same = λ is. same (inl refl);
  cached = λ told stands done. cached told stands (inr refl);
  spent = λ is. absurd (elim is [ inl one ↦ cc | inr other ↦ cc ]);
}
put_after tells uncalled (Err puts.Failed) d e old new failed within live same cached spent = record {
  failed = λ is. failed refl;
  within = within;
  live = (λ yes. absurd (elim (live.0 yes) [ inl ok ↦ false≢true ok | inr is ↦ cc ]), λ done. absurd (elim done [ inl ok ↦ false≢true ok | inr is ↦ cc ]));
  same = λ is. absurd (elim is [ inl one ↦ cc | inr other ↦ cc ]);
  cached = λ told stands done. absurd (elim done [ inl ok ↦ false≢true ok | inr is ↦ cc ]);
  spent = λ is. spent_but old new (spent (inr refl));
}
put_after tells uncalled (Err puts.Memory) d e old new failed within live same cached spent = record {
  failed = λ is. absurd cc;
  within = within;
  live = (λ yes. absurd (elim (live.0 yes) [ inl ok ↦ false≢true ok | inr is ↦ cc ]), λ done. absurd (elim done [ inl ok ↦ false≢true ok | inr is ↦ cc ]));
  same = λ is. same (inr refl);
  cached = λ told stands done. absurd (elim done [ inl ok ↦ false≢true ok | inr is ↦ cc ]);
  spent = λ is. spent_but old new (spent (inl refl));
}

pub put_stands : (h : History) (plan : PlanEntry) (body : List ℕ) (r : Result ℕ PutError) (new : ArchiveState) → body ≡ spelling (Planned plan) → IfOk r (λ n. StandsFor new (h ++ Planned plan ∷ []) × (n ≡ length h + 1)) → ComesBehind h body (as_put r) new
put_stands h plan body (Ok n) new spelled stores = (Planned plan, spelled, stores.0, stores.1)
put_stands h plan body (Err puts.NoRoom) new spelled stores = tt
put_stands h plan body (Err puts.Failed) new spelled stores = tt
put_stands h plan body (Err puts.Memory) new spelled stores = tt

pub takes_put : (h : History) (plan : PlanEntry) (list : List Posting) (body : List ℕ) (job : Option Job) (end : ℕ) (r : Result ℕ PutError) (new : ArchiveState) → IsPlanEntry plan → body ≡ spelling (Planned plan) → job ≡ None → end ≡ end_of h → MayBePut h plan list
    → (r ≡ Err puts.NoRoom → IsUntaken plan list (taken_in (plain_job job) h) end (length body) × StandsFor new h) → (IsOk r ⊎ (r ≡ Err puts.Failed) → HasOwnPlaces (plain_job job) h plan list)
    → IfOk r (λ n. StandsFor new (h ++ Planned plan ∷ []) × (n ≡ length h + 1)) → TakesBody h body (as_put r) new
takes_put h plan list body job end r new ranges spelled idle at put untaken own stores =
    go r (λ is. let (why, stands) = untaken is in (subst (λ (o : Option Job). IsUntaken plan list (taken_in (plain_job o) h) end (length body)) idle why, stands))
    (λ is. subst (λ (o : Option Job). HasOwnPlaces (plain_job o) h plan list) idle (own is)) stores
  where
    go : (r : Result ℕ PutError) → (r ≡ Err puts.NoRoom → IsUntaken plan list (live_extents h) end (length body) × StandsFor new h) → (IsOk r ⊎ (r ≡ Err puts.Failed) → HasOwnPlaces None h plan list)
        → IfOk r (λ n. StandsFor new (h ++ Planned plan ∷ []) × (n ≡ length h + 1)) → TakesBody h body (as_put r) new
    go (Ok n) untaken own stores = record {
      refused = λ is. absurd cc;
      allowed = λ is. (Planned plan, spelled, may_put h plan list put (own (inl refl)));
      stands = put_stands h plan body (Ok n) new spelled stores;
    }
    go (Err puts.NoRoom) untaken own stores = record {
      refused = λ is. (
        spells_no_next h (Planned plan) body ranges spelled (untaken_never h plan list end (length body) at (ap length spelled) put.list_is (untaken refl).0),
        (untaken refl).1,
      );
      allowed = λ is. absurd (elim is [ inl ok ↦ false≢true ok | inr other ↦ cc ]);
      stands = tt;
    }
    go (Err puts.Failed) untaken own stores = record {
      refused = λ is. absurd cc;
      allowed = λ is. (Planned plan, spelled, may_put h plan list put (own (inr refl)));
      stands = tt;
    }
    go (Err puts.Memory) untaken own stores = record {
      refused = λ is. absurd cc;
      allowed = λ is. absurd (elim is [ inl ok ↦ false≢true ok | inr other ↦ cc ]);
      stands = tt;
    }

took_put : (s next : Store) (plan : PlanEntry) (body : List ℕ) (d e : DiskState) → IsPlanEntry plan → body ≡ spelling (Planned plan) → IsPutBy s next plan d e → Takes s next body d e
took_put s next plan body d e ranges spelled put = record { entry = Planned plan; ranges = ranges; spelled = spelled; next_is = put.next_is; job_is = put.job_is; stocks = put.stocks; leads = put.leads }

pub put_by : (s : Store) (plan : PlanEntry) (body : List ℕ) (r : Result ℕ PutError) (d e : DiskState) (new : ArchiveState) → IsPlanEntry plan → body ≡ spelling (Planned plan)
    → IfOk r (λ n. (next : Store) × (IsPutBy s next plan d e × AreInStepBy e new next)) → (r ≡ Err puts.Failed → KeepsBy s d e ⊎ ((next : Store) × IsPutBy s next plan d e)) → (r ≡ Err puts.NoRoom → AreInStepBy e new s)
    → (r ≡ Err puts.Memory → KeepsBy s d e) → TakesBy s body (as_put r) d e new
put_by s plan body (Ok n) d e new ranges spelled made stopped kept starved = (made.0, took_put s made.0 plan body d e ranges spelled made.1.0, made.1.1)
put_by s plan body (Err puts.NoRoom) d e new ranges spelled made stopped kept starved = kept refl
put_by s plan body (Err puts.Failed) d e new ranges spelled made stopped kept starved = elim (stopped refl) [ inl same ↦ inl same | inr put ↦ inr (put.0, took_put s put.0 plan body d e ranges spelled put.1) ]
put_by s plan body (Err puts.Memory) d e new ranges spelled made stopped kept starved = starved refl
