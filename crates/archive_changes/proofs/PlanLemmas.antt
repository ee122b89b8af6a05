-- What becomes of a phrase that is to be planned, and that storing its plan is a step of the abstract archive.
use Rattle.std.proofs.Common.{◌≡◌, ◌⊎◌, ℕ, ◌+◌, ◌<◌, ◌≤◌, List, [], ◌∷◌, ◌++◌, length, Option, Some, None, Result, Ok, Err, IfOk, inl, inr, refl, ap, sym, subst, ◌∙◌, arith}
use Rattle.std.proofs.lemmas.List.{length_push}
use Rattle.std.proofs.lemmas.Bool.{lt-ltb, le-ltb}
use Rattle.machine_model.specs.States.{DiskState}
use Rattle.base_types.specs.Limits.{limit_of}
use Rattle.base_types.specs.declared.fraction.Fraction.{Fraction}
use Rattle.base_types.specs.declared.posting.Posting.{Posting}
use Rattle.base_types.specs.declared.time.Time.{Time}
use Rattle.base_types.specs.declared.which.Which.TheVariants.{Journal}
use Rattle.base_commands.specs.declared.command.Command.TheVariants as commands
use Rattle.base_commands.specs.declared.command.Item.{Item}
use Rattle.base_commands.specs.declared.command.Item.TheVariants as items
use Rattle.base_commands.specs.declared.command.Kind.{Kind}
use Rattle.base_commands.specs.declared.command.Kind.TheVariants.{Guarantee, Uniform, Since}
use Rattle.text_words.specs.Terms.{one_term}
use Rattle.plans_kinds.specs.Plans.{IsGoodPlan, plan_space}
use Rattle.journal_entries.specs.declared.entry.Entry.TheVariants.{Planned}
use Rattle.journal_entries.specs.declared.plan.PlanEntry.{PlanEntry}
use Rattle.model_archive.specs.declared.refusal.Refusal.{Refusal}
use Rattle.model_archive.specs.declared.refusal.Refusal.TheVariants as refusals
use Rattle.model_archive.specs.Histories.{History, end_of}
use Rattle.model_archive.specs.Planning.{IsKnown, OfWidth, OfPhrase, last_second}
use Rattle.model_archive.specs.Plans.{live_extents}
use Rattle.model_archive.specs.Steps as steps
use Rattle.model_archive.specs.declared.summary.Summary.{Summary}
use Rattle.model_archive.specs.Steps.{Reply, Refused, AddsPlan, Begins, ChoosesPlan, Declines, Idles, OfIdle, OfStill, Plans, StoresPlan, TakesOn, TakesPlaces, full_journal, pages_in, spelled_key}
use Rattle.model_archive.specs.Worlds.{Job, World, taken_in}
use Rattle.model_archive.proofs.HistoryLemmas.{end_of-push}
use Rattle.model_archive.proofs.RefusalLemmas.{when_true, when_false}
use Rattle.archive_hand.specs.Changing.{KeepsBy}
use Rattle.archive_hand.specs.Stored.{Store, world_by}
use Rattle.archive_hand.specs.Jobs.{plain_job}
use Rattle.journal_gates.proofs.InStepLemmas.{step_at}
use Rattle.archive_hand.specs.States.{ArchiveState, AreInStepBy, CacheStands, StandsFor, with_reads}
use Rattle.archive_plans.specs.Readying.{IsFull, plan_with, tells_of}
use Rattle.archive_hand.specs.Storing.{IsDraft, IsStoredAs, IsStoredBy, IsTakenOn}
use Rattle.archive_hand.specs.Takes.{Comes, Replied, TakesBy}
use Rattle.pages_sublists.specs.Preparing.{extents}
use Rattle.archive_hand.specs.declared.job.Begun.{Begun}
use Rattle.archive_changes.specs.Endings.{planned}
use Rattle.archive_hand.specs.declared.error.ChangeError.{ChangeError}
use Rattle.archive_hand.specs.declared.error.ChangeError.TheVariants as changes
use Rattle.archive_plans.specs.declared.readying.Draft.{Draft}
use Rattle.archive_hand.proofs.ByReadsLemmas.{keeps_leads, keeps_nowhere, stocks_same}
use Rattle.archive_changes.proofs.TakeLemmas.{unmade_by}
use Rattle.archive_hand.proofs.PhraseLemmas.{goes_on, map_idle, map_phrase, map_still}

-- a list with a posting goes on, where it has a plan that is what its kind promises
wide_or_not : (kind : Kind) (h : ℕ) (list : List Posting) (factor : Fraction) (cuts : List Time) (Refuses : Refusal → Type 0) (GoesOn : Type 0) → IsGoodPlan kind list factor cuts h → GoesOn → OfWidth kind h list Refuses GoesOn
wide_or_not Guarantee h list factor cuts Refuses GoesOn ((times, are, few), least) goes = (times, are, inr (few, goes))
wide_or_not Uniform h list factor cuts Refuses GoesOn good goes = goes
wide_or_not (Since at) h list factor cuts Refuses GoesOn good goes = goes

-- a draft is a plan for its phrase, which so goes on
phrase_draft : (h : History) (phrase : List ℕ) (kind : Kind) (draft : Draft) (Refuses : Refusal → Type 0) (GoesOn : List ℕ → List Posting → Type 0) → spelled_key (one_term phrase) ≡ Some draft.word → IsKnown h draft.word → draft.kind ≡ kind → IsDraft h draft
    → GoesOn draft.word draft.list.items → OfPhrase kind h (spelled_key (one_term phrase)) Refuses GoesOn
phrase_draft h phrase kind draft Refuses GoesOn term known kind_is is goes =
    let list = draft.list.items in
    let good = subst (λ (n : ℕ). IsGoodPlan draft.kind list draft.factor draft.cuts.items n) is.horizon_is is.good in
    let of = wide_or_not draft.kind (last_second h) list draft.factor draft.cuts.items Refuses (GoesOn draft.word list) good goes in
    subst (λ (k : Kind). OfPhrase k h (spelled_key (one_term phrase)) Refuses GoesOn) kind_is (goes_on draft.kind h (spelled_key (one_term phrase)) draft.word list Refuses GoesOn term known is.list_is is.some of)

-- and what comes of its cuts is a plan that is chosen
chooses_draft : (job : Option Job) (h : History) (kind : Kind) (factor : Fraction) (draft : Draft) (Refuses : Refusal → Type 0) (GoesOn : PlanEntry → Type 0) → draft.kind ≡ kind → draft.factor ≡ factor → IsDraft h draft
    → TakesPlaces job h draft.word draft.kind draft.factor draft.horizon draft.cuts.items draft.list.items Refuses GoesOn → ChoosesPlan job h kind factor draft.word draft.list.items Refuses GoesOn
chooses_draft job h kind factor draft Refuses GoesOn kind_is same is takes =
    let chooses : ChoosesPlan job h draft.kind draft.factor draft.word draft.list.items Refuses GoesOn = record { horizon = draft.horizon; horizon_is = is.horizon_is; cuts = draft.cuts.items; good = is.good; stores = takes } in
    subst (λ (f : Fraction). ChoosesPlan job h kind f draft.word draft.list.items Refuses GoesOn) same (subst (λ (k : Kind). ChoosesPlan job h k draft.factor draft.word draft.list.items Refuses GoesOn) kind_is chooses)

-- why a draft has no room is why it is refused
full_draft : (job : Option Job) (h : History) (draft : Draft) (end : ℕ) (why : Refusal) (Refuses : Refusal → Type 0) (GoesOn : PlanEntry → Type 0) → end ≡ end_of h → IsFull draft (taken_in job h) end why → ((because : Refusal) → why ≡ because → Refuses because)
    → ((plan : PlanEntry) → full_journal h (Planned plan) ≡ Some (refusals.Full Journal (limit_of Journal)) → Refuses (refusals.Full Journal (limit_of Journal)) → GoesOn plan)
    → TakesPlaces job h draft.word draft.kind draft.factor draft.horizon draft.cuts.items draft.list.items Refuses GoesOn
full_draft job h draft end why Refuses GoesOn at (inl pages) refused goes = inl (pages.0, refused _ pages.1)
full_draft job h draft end why Refuses GoesOn at (inr (places, (has, over, because))) refused goes =
    let plan = plan_with draft places in
    let passes : limit_of Journal < end_of (h ++ Planned plan ∷ []) = omega (arith, over, at, end_of-push h (Planned plan)) in
    let full : full_journal h (Planned plan) ≡ Some (refusals.Full Journal (limit_of Journal)) = when_true _ (refusals.Full Journal (limit_of Journal)) (lt-ltb (limit_of Journal) (end_of (h ++ Planned plan ∷ [])) passes) in
    inr (places, has.placed, has.each, goes plan full (refused _ because))

-- what has room is put where it is
placed_draft : (job : Option Job) (h : History) (draft : Draft) (plan : PlanEntry) (Refuses : Refusal → Type 0) (GoesOn : PlanEntry → Type 0) → (stored : IsStoredAs job h draft plan)
    → (full_journal h (Planned (plan_with draft stored.places)) ≡ None → GoesOn (plan_with draft stored.places)) → TakesPlaces job h draft.word draft.kind draft.factor draft.horizon draft.cuts.items draft.list.items Refuses GoesOn
placed_draft job h draft plan Refuses GoesOn stored goes =
    let with_places = plan_with draft stored.places in
    let J : PlanEntry → Type 0 = λ p. end_of (h ++ Planned p ∷ []) ≤ limit_of Journal in
    let allowed : full_journal h (Planned with_places) ≡ None =
    when_false _ (refusals.Full Journal (limit_of Journal)) (le-ltb (limit_of Journal) (end_of (h ++ Planned with_places ∷ [])) (subst J stored.plan_is stored.room)) in
    inr (stored.places, stored.has.placed, stored.has.each, goes allowed)

-- beside a plan that is being written of another word it goes on
still_goes : (job : Option Job) (word : List ℕ) (Refuses : Refusal → Type 0) (A : Type 0) → OfStill job word (λ why. ⊥) (Unit {0}) → A → OfStill job word Refuses A
still_goes job word Refuses A still goes = map_still job word (λ why. ⊥) Refuses (Unit {0}) A (λ why none. absurd none) (λ one. goes) still

-- ---- a plan that is stored

plans_draft : (job : Option Job) (h : History) (phrase : List ℕ) (kind : Kind) (factor : Fraction) (draft : Draft) (reply : Reply) (next : History) → spelled_key (one_term phrase) ≡ Some draft.word → IsKnown h draft.word
    → draft.kind ≡ kind → draft.factor ≡ factor → IsDraft h draft → OfStill job draft.word (λ why. ⊥) (Unit {0})
    → TakesPlaces job h draft.word draft.kind draft.factor draft.horizon draft.cuts.items draft.list.items (λ why. Declines h why reply next) (λ plan. AddsPlan h plan (full_journal h (Planned plan)) draft.list.items reply next)
    → Plans job h phrase kind factor reply next
plans_draft job h phrase kind factor draft reply next term known kind_is same is still takes =
    let D : Refusal → Type 0 = λ why. Declines h why reply next in
    let stores : StoresPlan job h kind factor draft.word draft.list.items reply next = chooses_draft job h kind factor draft D (λ plan. AddsPlan h plan (full_journal h (Planned plan)) draft.list.items reply next) kind_is same is takes in
    phrase_draft h phrase kind draft D (λ word list. OfStill job word D (StoresPlan job h kind factor word list reply next)) term known kind_is is
    (still_goes job draft.word D (StoresPlan job h kind factor draft.word draft.list.items reply next) still stores)

pub plans_full : (job : Option Job) (h : History) (phrase : List ℕ) (kind : Kind) (factor : Fraction) (draft : Draft) (end : ℕ) (why : Refusal) → spelled_key (one_term phrase) ≡ Some draft.word → IsKnown h draft.word
    → draft.kind ≡ kind → draft.factor ≡ factor → IsDraft h draft → OfStill job draft.word (λ why. ⊥) (Unit {0}) → end ≡ end_of h → IsFull draft (taken_in job h) end why → Plans job h phrase kind factor (Refused why) h
plans_full job h phrase kind factor draft end why term known kind_is same is still at full =
    let A : PlanEntry → Option Refusal → Type 0 = λ plan o. AddsPlan h plan o draft.list.items (Refused why) h in
    plans_draft job h phrase kind factor draft (Refused why) h term known kind_is same is still
    (full_draft job h draft end why (λ because. Declines h because (Refused why) h) (λ plan. A plan (full_journal h (Planned plan))) at full (λ because e. (refl, ap Refused e)) (λ plan refused declines. subst (A plan) (sym refused) declines))

pub plans_stored : (job : Option Job) (h : History) (phrase : List ℕ) (kind : Kind) (factor : Fraction) (draft : Draft) (plan : PlanEntry) → spelled_key (one_term phrase) ≡ Some draft.word → IsKnown h draft.word
    → draft.kind ≡ kind → draft.factor ≡ factor → IsDraft h draft → OfStill job draft.word (λ why. ⊥) (Unit {0}) → IsStoredAs job h draft plan → Plans job h phrase kind factor (steps.Planned (tells_of draft (length h + 1))) (h ++ Planned plan ∷ [])
plans_stored job h phrase kind factor draft plan term known kind_is same is still stored =
    let next = h ++ Planned plan ∷ [] in
    let reply = steps.Planned (tells_of draft (length h + 1)) in
    let A : PlanEntry → Option Refusal → Type 0 = λ p o. AddsPlan h p o draft.list.items reply next in
    let long : length h + 1 ≡ length next = omega (arith, length_push h (Planned plan)) in
    plans_draft job h phrase kind factor draft reply next term known kind_is same is still
    (placed_draft job h draft plan (λ why. Declines h why reply next) (λ p. A p (full_journal h (Planned p))) stored
    (λ allowed. subst (A (plan_with draft stored.places)) (sym allowed) (ap (λ (p : PlanEntry). h ++ Planned p ∷ []) stored.plan_is, (draft.cost, is.cost_is, ap (λ (n : ℕ). steps.Planned (tells_of draft n)) long))))

-- a phrase that is refused before its list is planned
pub plans_refused : (job : Option Job) (h : History) (phrase : List ℕ) (kind : Kind) (factor : Fraction) (why : Refusal)
    → OfPhrase kind h (spelled_key (one_term phrase)) (λ because. why ≡ because) (λ word list. OfStill job word (λ because. why ≡ because) ⊥) → Plans job h phrase kind factor (Refused why) h
plans_refused job h phrase kind factor why of =
    let S : List ℕ → List Posting → Type 0 = λ word list. StoresPlan job h kind factor word list (Refused why) h in
    map_phrase kind h (spelled_key (one_term phrase)) (λ because. why ≡ because) (λ because. Declines h because (Refused why) h) (λ word list. OfStill job word (λ because. why ≡ because) ⊥) (λ word list. OfStill job word (λ because. Declines h because (Refused why) h) (S word list))
    (λ because e. (refl, ap Refused e))
    (λ word list still. map_still job word (λ because. why ≡ because) (λ because. Declines h because (Refused why) h) ⊥ (S word list) (λ because e. (refl, ap Refused e)) (λ none. absurd none) still) of

-- ---- a plan that is begun

begins_draft : (w : World) (phrase : List ℕ) (factor : Fraction) (draft : Draft) (reply : Reply) (next : World) → spelled_key (one_term phrase) ≡ Some draft.word → IsKnown w.history draft.word
    → draft.kind ≡ Guarantee → draft.factor ≡ factor → IsDraft w.history draft → w.job ≡ None
    → TakesPlaces None w.history draft.word draft.kind draft.factor draft.horizon draft.cuts.items draft.list.items (λ why. Idles w why reply next) (λ plan. TakesOn w plan (full_journal w.history (Planned plan)) draft.list.items reply next)
    → Begins w phrase factor reply next
begins_draft w phrase factor draft reply next term known kind_is same is idle takes =
    let D : Refusal → Type 0 = λ why. Idles w why reply next in
    let A : List Posting → PlanEntry → Type 0 = λ list plan. TakesOn w plan (full_journal w.history (Planned plan)) list reply next in
    let B : Option Job → Type 0 = λ o. OfIdle o draft.word D (ChoosesPlan o w.history Guarantee factor draft.word draft.list.items D (A draft.list.items)) in
    phrase_draft w.history phrase Guarantee draft D (λ word list. OfIdle w.job word D (ChoosesPlan w.job w.history Guarantee factor word list D (A list))) term known kind_is is
    (subst B (sym idle) (chooses_draft None w.history Guarantee factor draft D (A draft.list.items) kind_is same is takes))

pub begins_full : (w : World) (phrase : List ℕ) (factor : Fraction) (draft : Draft) (end : ℕ) (why : Refusal) → spelled_key (one_term phrase) ≡ Some draft.word → IsKnown w.history draft.word
    → draft.kind ≡ Guarantee → draft.factor ≡ factor → IsDraft w.history draft → w.job ≡ None → end ≡ end_of w.history → IsFull draft (live_extents w.history) end why → Begins w phrase factor (Refused why) w
begins_full w phrase factor draft end why term known kind_is same is idle at full =
    let A : PlanEntry → Option Refusal → Type 0 = λ plan o. TakesOn w plan o draft.list.items (Refused why) w in
    begins_draft w phrase factor draft (Refused why) w term known kind_is same is idle
    (full_draft None w.history draft end why (λ because. Idles w because (Refused why) w) (λ plan. A plan (full_journal w.history (Planned plan))) at full (λ because e. (refl, ap Refused e)) (λ plan refused idles. subst (A plan) (sym refused) idles))

pub begins_taken : (w : World) (phrase : List ℕ) (factor : Fraction) (draft : Draft) (job : Option Job) (told : Begun) → spelled_key (one_term phrase) ≡ Some draft.word → IsKnown w.history draft.word
    → draft.kind ≡ Guarantee → draft.factor ≡ factor → IsDraft w.history draft → w.job ≡ None → IsTakenOn w.history draft job told → Begins w phrase factor (steps.Begun told.segments told.pages) (record w { job = job })
begins_taken w phrase factor draft job told term known kind_is same is idle taken =
    let reply = steps.Begun told.segments told.pages in
    let next : World = record w { job = job } in
    let A : PlanEntry → Option Refusal → Type 0 = λ p o. TakesOn w p o draft.list.items reply next in
    begins_draft w phrase factor draft reply next term known kind_is same is idle
    (placed_draft None w.history draft taken.plan (λ why. Idles w why reply next) (λ p. A p (full_journal w.history (Planned p))) taken.stored
    (λ allowed. subst (A (plan_with draft taken.stored.places)) (sym allowed) (subst (λ (p : PlanEntry). A p None) taken.stored.plan_is (began taken.plan (cuts_are taken.plan taken.stored) taken.job_is taken.segments_are taken.pages_are))))
  where
    cuts_are : (plan : PlanEntry) → IsStoredAs None w.history draft plan → (plan.cuts ≡ draft.cuts.items) × (plan.horizon ≡ draft.horizon)
    cuts_are plan stored = (ap (λ (p : PlanEntry). p.cuts) stored.plan_is, ap (λ (p : PlanEntry). p.horizon) stored.plan_is)

    began : (plan : PlanEntry) → (plan.cuts ≡ draft.cuts.items) × (plan.horizon ≡ draft.horizon)
        → job ≡ Some (record { plan = plan; space = plan_space draft.list.items draft.cuts.items draft.horizon.seconds; full = length draft.list.items; left = pages_in (extents plan.places) })
        → told.segments ≡ length plan.cuts → told.pages ≡ pages_in (extents plan.places) → TakesOn w plan None draft.list.items (steps.Begun told.segments told.pages) (record w { job = job })
    began plan of is segments pages = (
      (λ i. record w { job = is i }) ∙ (λ i. record w { job = Some (record { plan = plan; space = plan_space draft.list.items (sym of.0 i) (sym of.1 i).seconds; full = length draft.list.items; left = pages_in (extents plan.places) }) }),
      (λ i. steps.Begun (segments i) (pages i)),
    )

pub begins_refused : (w : World) (phrase : List ℕ) (factor : Fraction) (why : Refusal) → OfPhrase Guarantee w.history (spelled_key (one_term phrase)) (λ because. why ≡ because) (λ word list. OfIdle w.job word (λ because. why ≡ because) ⊥) → Begins w phrase factor (Refused why) w
begins_refused w phrase factor why of =
    let S : List ℕ → List Posting → Type 0 = λ word list. ChoosesPlan w.job w.history Guarantee factor word list (λ because. Idles w because (Refused why) w) (λ plan. TakesOn w plan (full_journal w.history (Planned plan)) list (Refused why) w) in
    map_phrase Guarantee w.history (spelled_key (one_term phrase)) (λ because. why ≡ because) (λ because. Idles w because (Refused why) w) (λ word list. OfIdle w.job word (λ because. why ≡ because) ⊥)
    (λ word list. OfIdle w.job word (λ because. Idles w because (Refused why) w) (S word list)) (λ because e. (refl, ap Refused e))
    (λ word list idle. map_idle w.job word (λ because. why ≡ because) (λ because. Idles w because (Refused why) w) ⊥ (S word list) (λ because e. (refl, ap Refused e)) (λ none. absurd none) idle) of

-- the same by what reads give
pub plan_by : (s : Store) (phrase : List ℕ) (kind : Kind) (factor : Fraction) (draft : Draft) (r : Result Summary ChangeError) (old new : DiskState) (a b : ArchiveState) → AreInStepBy old a s
    → spelled_key (one_term phrase) ≡ Some draft.word → IsKnown s.history draft.word → draft.kind ≡ kind → draft.factor ≡ factor → IsDraft s.history draft → OfStill s.job draft.word (λ why. ⊥) (Unit {0})
    → ((why : Refusal) → r ≡ Err (changes.Refused why) → (new ≡ old) × Plans s.job s.history phrase kind factor (Refused why) s.history × AreInStepBy old b (with_reads s b old)) → (r ≡ Err changes.Memory → new ≡ old)
    → IfOk r (λ told. (next : Store) × (IsStoredBy s next draft old new × (told ≡ tells_of draft (length s.history + 1)) × AreInStepBy new b next))
    → (r ≡ Err changes.Failed → KeepsBy s old new ⊎ ((next : Store) × IsStoredBy s next draft old new)) → TakesBy s (items.Command (commands.Plan phrase kind factor)) (planned r) old new b
plan_by s phrase kind factor draft r old new a b in_step term known kind_is same is still refused memory puts stops = go r refused memory puts stops
  where
    item : Item
    item = items.Command (commands.Plan phrase kind factor)

    comes : (next : Store) (told : Summary) → told ≡ tells_of draft (length s.history + 1) → IsStoredBy s next draft old new → Comes s item (steps.Planned told) next old new
    comes next told told_is stored =
        let P : History → Type 0 = λ n. Plans s.job s.history phrase kind factor (steps.Planned told) n in
        let plans = subst P (sym stored.next_is) (rw told_is (plans_stored s.job s.history phrase kind factor draft stored.plan term known kind_is same is still stored.stored)) in
        record { step = (plans, stored.job_is, stored.stocks); leads = stored.leads; still = λ none. absurd none }

    go : (r : Result Summary ChangeError) → ((why : Refusal) → r ≡ Err (changes.Refused why) → (new ≡ old) × Plans s.job s.history phrase kind factor (Refused why) s.history × AreInStepBy old b (with_reads s b old)) → (r ≡ Err changes.Memory → new ≡ old)
        → IfOk r (λ told. (next : Store) × (IsStoredBy s next draft old new × (told ≡ tells_of draft (length s.history + 1)) × AreInStepBy new b next))
        → (r ≡ Err changes.Failed → KeepsBy s old new ⊎ ((next : Store) × IsStoredBy s next draft old new)) → TakesBy s item (planned r) old new b
    go (Ok summary) refused memory (next, (stored, told, there)) stops = (next, comes next summary told stored, there)
    go (Err error) refused memory puts stops =
        unmade_by s item error old new a b in_step (λ why is. let (kept, declines, there) = refused why (ap Err is) in (kept, (declines, refl, stocks_same s b old in_step.live), there))
        (λ is. elim (stops (ap Err is)) [
          | inl keeps ↦ inl keeps
          | inr stored ↦ inr (steps.Planned (tells_of draft (length s.history + 1)), stored.0, comes stored.0 (tells_of draft (length s.history + 1)) refl stored.1)
        ])
        (λ is. memory (ap Err is))

-- ---- begun by what reads give

-- the archive but for its free pages, its room and the plan that is being written is as it was
abbrev pub IsSameBut : ArchiveState → ArchiveState → Type 0
IsSameBut a b = b ≡ record a { shelf = record (a.shelf) { pages = b.shelf.pages; room = b.shelf.room }; job = b.job }

-- what is stored then
abbrev pub store_begun : Store → ArchiveState → Store
store_begun s b = record s { job = plain_job b.job }

in_step_begun : (d : DiskState) (a b : ArchiveState) (s : Store) → AreInStepBy d a s → IsSameBut a b → StandsFor b s.history → CacheStands d b → AreInStepBy d b (store_begun s b)
in_step_begun d a b s was same stands cached = record {
  stands = stands;
  asked_are = ap (λ (x : ArchiveState). x.asked) same ∙ was.asked_are;
  journal = step_at (stands.end_is ∙ sym was.stands.end_is) was.journal;
  pages_are = was.pages_are;
  kept_are = ap (λ (x : ArchiveState). x.shelf.cache) same ∙ was.kept_are;
  read_is = was.read_is;
  job_is = refl;
  live = was.live;
  same = was.same;
  cached = cached;
}

-- a call that asked no disk, and replied this
pub begun_by : (s : Store) (phrase : List ℕ) (factor : Fraction) (reply : Reply) (d : DiskState) (a b : ArchiveState) → AreInStepBy d a s → IsSameBut a b → StandsFor b s.history → CacheStands d b → Begins (world_by s) phrase factor reply (world_by (store_begun s b))
    → TakesBy s (items.Command (commands.Begin phrase factor)) (Replied reply) d d b
begun_by s phrase factor reply d a b in_step same stands cached begins = (
  store_begun s b,
  record { step = (begins, refl); leads = keeps_leads s (store_begun s b) d d (keeps_nowhere d a s in_step); still = λ none. (refl, refl) },
  in_step_begun d a b s in_step same stands cached,
)
