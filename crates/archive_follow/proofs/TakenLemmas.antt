-- A change that is made of an entry of another archive: what is known of it, by what is known of the change.
use Rattle.std.proofs.Common.{◌≡◌, ◌⊎◌, ℕ, ◌+◌, false, List, [], ◌∷◌, ◌++◌, All, Option, Some, None, Result, Ok, Err, IsTrue, inl, inr, refl, sym, subst, ◌∙◌, arith}
use Rattle.std.proofs.lemmas.Bool.{false≢true}
use Rattle.machine_model.specs.Areas.{Bytes}
use Rattle.machine_model.specs.States.{DiskState}
use Rattle.base_commands.specs.declared.command.Item.{Item}
use Rattle.journal_gates.specs.Spelled.{Spells}
use Rattle.journal_entries.proofs.EntryLemmas.{one_entry}
use Rattle.journal_entries.specs.Spelling.{spelling, IsEntry}
use Rattle.journal_entries.specs.declared.entry.Entry.{Entry}
use Rattle.model_archive.specs.declared.refusal.Refusal.{Refusal}
use Rattle.model_archive.specs.Histories.{History}
use Rattle.model_archive.specs.Plans.{live_extents}
use Rattle.model_archive.specs.Stands.{bodies_of}
use Rattle.model_archive.specs.Steps.{Reply, Accepted, Refused}
use Rattle.model_archive.specs.Steps as machine
use Rattle.archive_hand.specs.Adding.{IsDone as IsMade, IsSpent, IsSpentBut}
use Rattle.archive_hand.specs.Changing.{KeepsBy, LeadsBy}
use Rattle.archive_hand.specs.States.{ArchiveState, AreInStepBy, Reaches, StandsFor}
use Rattle.archive_hand.specs.Stored.{HasSame, IsSameStore, StandsBy, Stocks, Store, StoreStep, TellsNoEntry}
use Rattle.archive_hand.specs.Takes.{Comes, Ending, Faulted, Replied, Starved, TakesBy as CarriesBy}
use Rattle.archive_hand.specs.declared.error.ChangeError.{ChangeError}
use Rattle.archive_hand.specs.declared.error.ChangeError.TheVariants as changes
use Rattle.archive_changes.specs.Adding.{Adds}
use Rattle.archive_changes.specs.After.{AfterChange}
use Rattle.archive_changes.specs.Endings.{changed, changed_all, plainly}
use Rattle.archive_changes.specs.declared.error.BatchError.{BatchError}
use Rattle.archive_changes.specs.declared.error.BatchError.TheVariants as batches
use Rattle.model_follow.specs.Taking.{MayBeTaken, SpellsNext}
use Rattle.archive_follow.specs.Taken.{AfterTaking, Takes, TakesBody, TakesBy, as_taken}
use Rattle.archive_follow.specs.declared.error.TakeEntryError.{TakeEntryError}
use Rattle.archive_follow.specs.declared.error.TakeEntryError.TheVariants as takes

-- ---- on any disk

-- an archive that is spent is so but for what it tells of words
pub spent_but : (old new : ArchiveState) → IsSpent old new → IsSpentBut old new
spent_but old new s = record {
  end_is = s.end_is;
  length_is = s.length_is;
  changes_are = s.changes_are;
  shelf_is = s.shelf_is;
  marked_is = s.marked_is;
  asked_is = s.asked_is;
  job_is = s.job_is;
  live_is = s.live_is;
}

not_made : (error : ChangeError) → ((why : Refusal) → error ≡ changes.Refused why → ⊥) → IsMade {T = ℕ} (Err error) → ⊥
not_made error other (inl ok) = false≢true ok
not_made error other (inr (why, is)) = other why (inner is)
  where
    inner : ◌≡◌ {A = Result ℕ ChangeError} (Err error) (Err (changes.Refused why)) → error ≡ changes.Refused why
    inner is = cc

pub after_taken : (Spent : ArchiveState → ArchiveState → Type 0) (tells refused uncalled : Type 0) (r : Result ℕ ChangeError) (d e : DiskState) (old new : ArchiveState)
    → (Spent old new → IsSpentBut old new) → (refused → uncalled) → AfterChange Spent tells refused uncalled r d e old new → AfterTaking tells uncalled (as_taken r) d e old new
after_taken Spent tells refused uncalled (Ok n) d e old new but lower a = record {
  failed = λ is. absurd cc;
  within = a.within;
  live = (λ yes. inl refl, λ done. a.live.1 (inl refl));
  same = λ is. absurd (elim is [ inl one ↦ cc | inr other ↦ cc ]);
  cached = λ told stands done. a.cached told stands (inl refl);
  spent = λ is. absurd (elim is [ inl one ↦ cc | inr other ↦ cc ]);
}
after_taken Spent tells refused uncalled (Err (changes.Refused why)) d e old new but lower a = record {
  failed = λ is. absurd cc;
  within = a.within;
  live = (λ yes. inr refl, λ done. a.live.1 (inr (why, refl)));
  same = λ is. lower (a.same why refl);
  cached = λ told stands done. a.cached told stands (inr (why, refl));
  spent = λ is. absurd (elim is [ inl one ↦ cc | inr other ↦ cc ]);
}
after_taken Spent tells refused uncalled (Err changes.Failed) d e old new but lower a = record {
  failed = λ is. a.failed refl;
  within = a.within;
  live = (λ yes. absurd (not_made changes.Failed (λ why is. cc) (a.live.0 yes)), λ done. absurd (elim done [ inl ok ↦ false≢true ok | inr is ↦ cc ]));
  same = λ is. absurd (elim is [ inl one ↦ cc | inr other ↦ cc ]);
  cached = λ told stands done. absurd (elim done [ inl ok ↦ false≢true ok | inr is ↦ cc ]);
  spent = λ is. but (a.spent (inr refl));
}
after_taken Spent tells refused uncalled (Err changes.Memory) d e old new but lower a = record {
  failed = λ is. absurd cc;
  within = a.within;
  live = (λ yes. absurd (not_made changes.Memory (λ why is. cc) (a.live.0 yes)), λ done. absurd (elim done [ inl ok ↦ false≢true ok | inr is ↦ cc ]));
  same = λ is. a.memory refl;
  cached = λ told stands done. absurd (elim done [ inl ok ↦ false≢true ok | inr is ↦ cc ]);
  spent = λ is. but (a.spent (inl refl));
}

-- ---- for the history

-- an entry that these bytes spell may be taken where there is no cause against it, and only there
pub spells_no_next : (h : History) (e : Entry) (body : List ℕ) → IsEntry e → body ≡ spelling e → (MayBeTaken h e → ⊥) → SpellsNext h body → ⊥
spells_no_next h e body ranges spelled never next =
    let same : next.0 ≡ e = one_entry next.0 e next.2.legal.ranges ranges (sym next.1 ∙ spelled) in
    never (subst (λ (x : Entry). MayBeTaken h x) same next.2)

pub takes_change : (h : History) (e : Entry) (body : List ℕ) (refusal : Option Refusal) (r : Result ℕ ChangeError) (old new : ArchiveState) → IsEntry e → body ≡ spelling e
    → (refusal ≡ None → MayBeTaken h e) → (MayBeTaken h e → refusal ≡ None) → StandsFor old h → ((why : Refusal) → r ≡ Err (changes.Refused why) → new ≡ old) → Adds h e refusal r new → TakesBody h body (as_taken r) new
takes_change h e body refusal (Ok n) old new ranges spelled may none stands same adds = record {
  refused = λ is. absurd cc;
  allowed = λ is. (e, spelled, may (adds.allowed (inl refl)));
  stands = (e, spelled, adds.stands.0, adds.stands.1);
}
takes_change h e body refusal (Err (changes.Refused why)) old new ranges spelled may none stands same adds = record {
  refused = λ is. (
    spells_no_next h e body ranges spelled (λ taken. some_none (sym (adds.refused why refl) ∙ none taken)),
    subst (λ (a : ArchiveState). StandsFor a h) (sym (same why refl)) stands,
  );
  allowed = λ is. absurd (elim is [ inl ok ↦ false≢true ok | inr other ↦ cc ]);
  stands = tt;
}
  where
    some_none : Some why ≡ None → ⊥
    some_none is = cc
takes_change h e body refusal (Err changes.Failed) old new ranges spelled may none stands same adds = record {
  refused = λ is. absurd cc;
  allowed = λ is. (e, spelled, may (adds.allowed (inr refl)));
  stands = tt;
}
takes_change h e body refusal (Err changes.Memory) old new ranges spelled may none stands same adds = record {
  refused = λ is. absurd cc;
  allowed = λ is. absurd (elim is [ inl ok ↦ false≢true ok | inr other ↦ cc ]);
  stands = tt;
}

-- ---- by what reads give

-- how the call for a change ended, by how taking the entry does
abbrev pub IsEndOf : Result ℕ TakeEntryError → Ending → Type 0
IsEndOf (Ok n) ending = ending ≡ Replied (Accepted n)
IsEndOf (Err takes.NotNext) ending = Unit {0}
IsEndOf (Err takes.Failed) ending = ending ≡ Faulted
IsEndOf (Err takes.Memory) ending = ending ≡ Starved

pub end_of_change : (r : Result ℕ ChangeError) → IsEndOf (as_taken r) (changed r)
end_of_change (Ok n) = refl
end_of_change (Err (changes.Refused why)) = tt
end_of_change (Err changes.Failed) = refl
end_of_change (Err changes.Memory) = refl

-- a change that was refused changes nothing, and so does an entry that may not come next
pub not_next : (r : Result ℕ ChangeError) (P : Type 0) → ((why : Refusal) → r ≡ Err (changes.Refused why) → P) → as_taken r ≡ Err takes.NotNext → P
not_next (Ok n) P same is = absurd cc
not_next (Err (changes.Refused why)) P same is = same why refl
not_next (Err changes.Failed) P same is = absurd cc
not_next (Err changes.Memory) P same is = absurd cc

pub end_of_batch : (r : Result ℕ BatchError) → IsEndOf (as_taken (plainly r)) (changed_all r)
end_of_batch (Ok n) = refl
end_of_batch (Err (batches.Refused why index)) = tt
end_of_batch (Err batches.Failed) = refl
end_of_batch (Err batches.Memory) = refl

-- an outcome of a change adds this entry, or tells of none
abbrev pub AddsOrNot : Store → Entry → Reply → Store → Type 0
AddsOrNot s e reply next = (next.job ≡ s.job) × Stocks s next × ((next.history ≡ s.history ++ e ∷ []) ⊎ TellsNoEntry reply)

-- where the history and Pages are the same, what leads on keeps what there was
keeps_same : (s next : Store) (old new : DiskState) → IsSameStore s next → LeadsBy s next old new → KeepsBy s old new
keeps_same s next old new same leads = record {
  goes_on = leads.goes_on;
  images = λ image beside left.
      let was = leads.images image beside left in
      (elim was.0 [ inl still ↦ still | inr on ↦ back image on ], was.1);
}
  where
    back : (image : Bytes) → StandsBy next image → StandsBy s image
    back image stands =
        let S : History → Type 0 = λ h. Spells image.journal (bodies_of h) in
        let H : History → List ℕ → Type 0 = λ h pages. All (HasSame pages image.pages) (live_extents h) in
        record {
          spelled = subst S same.0 stands.spelled;
          same = subst (λ (pages : List ℕ). H s.history pages) same.1 (subst (λ (h : History). H h next.pages) same.0 stands.same);
        }

took : (s next : Store) (e : Entry) (body : List ℕ) (item : Item) (reply : Reply) (old new : DiskState) → IsEntry e → body ≡ spelling e → next.job ≡ s.job → Stocks s next → next.history ≡ s.history ++ e ∷ []
    → Comes s item reply next old new → Takes s next body old new
took s next e body item reply old new ranges spelled job stocks added comes = record { entry = e; ranges = ranges; spelled = spelled; next_is = added; job_is = job; stocks = stocks; leads = comes.leads }

pub taken_by : (s : Store) (item : Item) (e : Entry) (body : List ℕ) (t : Result ℕ TakeEntryError) (ending : Ending) (old new : DiskState) (a b : ArchiveState) → IsEntry e → body ≡ spelling e
    → ((reply : Reply) (next : Store) → StoreStep s item reply next → AddsOrNot s e reply next) → IsEndOf t ending → AreInStepBy old a s → (t ≡ Err takes.NotNext → (b ≡ a) × (new ≡ old))
    → CarriesBy s item ending old new b → TakesBy s body t old new b
taken_by s item e body (Ok n) ending old new a b ranges spelled adds end in_step same carries =
    let (next, comes, there) = subst (λ (x : Ending). CarriesBy s item x old new b) end carries in
    let (job, stocks, which) = adds (Accepted n) next comes.step in
    elim which [
      | inl added ↦ (next, took s next e body item (Accepted n) old new ranges spelled job stocks added comes, there)
      | inr none ↦ absurd none
    ]
taken_by s item e body (Err takes.NotNext) ending old new a b ranges spelled adds end in_step same carries =
    let (was, still) = same refl in
    subst (λ (d : DiskState). AreInStepBy d b s) (sym still) (subst (λ (x : ArchiveState). AreInStepBy old x s) (sym was) in_step)
taken_by s item e body (Err takes.Failed) ending old new a b ranges spelled adds end in_step same carries =
    elim (subst (λ (x : Ending). CarriesBy s item x old new b) end carries) [
      | inl keeps ↦ inl keeps
      | inr (reply, next, comes) ↦ after reply next comes (adds reply next comes.step)
    ]
  where
    after : (reply : Reply) (next : Store) → Comes s item reply next old new → AddsOrNot s e reply next → KeepsBy s old new ⊎ ((next : Store) × Takes s next body old new)
    after reply next comes (job, stocks, inl added) = inr (next, took s next e body item reply old new ranges spelled job stocks added comes)
    after reply next comes (job, stocks, inr none) = inl (keeps_same s next old new (comes.still none) comes.leads)
taken_by s item e body (Err takes.Memory) ending old new a b ranges spelled adds end in_step same carries = subst (λ (x : Ending). CarriesBy s item x old new b) end carries

-- what adds an entry or is refused does so
pub adds_or_not : (s next : Store) (e : Entry) (o : Option Refusal) (reply : Reply) → machine.Adds s.history e o reply next.history → next.job ≡ s.job → Stocks s next → AddsOrNot s e reply next
adds_or_not s next e None reply adds job stocks = (job, stocks, inl adds.0)
adds_or_not s next e (Some why) reply adds job stocks = (job, stocks, inr (subst TellsNoEntry (sym adds.1) tt))

-- ---- nothing was done

-- an entry that may not come next, where nothing was changed
pub after_none : (tells uncalled : Type 0) (d : DiskState) (a : ArchiveState) → uncalled → Reaches d.reach a → IsTrue a.live → AfterTaking tells uncalled (Err takes.NotNext) d d a a
after_none tells uncalled d a same within live = record {
  failed = λ is. absurd cc;
  within = within;
  live = (λ yes. inr refl, λ done. live);
  same = λ is. same;
  cached = λ told stands done. stands;
  spent = λ is. absurd (elim is [ inl one ↦ cc | inr other ↦ cc ]);
}

pub takes_none : (h : History) (body : List ℕ) (a : ArchiveState) → StandsFor a h → (SpellsNext h body → ⊥) → TakesBody h body (Err takes.NotNext) a
takes_none h body a stands never = record {
  refused = λ is. (never, stands);
  allowed = λ is. absurd (elim is [ inl ok ↦ false≢true ok | inr other ↦ cc ]);
  stands = tt;
}

-- want of memory, where the archive was given up
pub after_starved : (tells uncalled : Type 0) (d : DiskState) (a b : ArchiveState) → uncalled → b ≡ record a { live = false } → Reaches d.reach a → AfterTaking tells uncalled (Err takes.Memory) d d a b
after_starved tells uncalled d a b same is within = subst (λ (x : ArchiveState). AfterTaking tells uncalled (Err takes.Memory) d d a x) (sym is) (record {
  failed = λ is. absurd cc;
  within = within;
  live = (λ yes. absurd (false≢true yes), λ done. absurd (elim done [ inl ok ↦ false≢true ok | inr is ↦ cc ]));
  same = λ is. same;
  cached = λ told stands done. absurd (elim done [ inl ok ↦ false≢true ok | inr is ↦ cc ]);
  spent = λ is. record {
    end_is = refl;
    length_is = refl;
    changes_are = refl;
    shelf_is = record { plans_are = refl; room = omega arith; taken = λ extents has. has; cache_is = refl };
    marked_is = refl;
    asked_is = refl;
    job_is = refl;
    live_is = refl;
  };
})

pub takes_starved : (h : History) (body : List ℕ) (a : ArchiveState) → TakesBody h body (Err takes.Memory) a
takes_starved h body a = record {
  refused = λ is. absurd cc;
  allowed = λ is. absurd (elim is [ inl ok ↦ false≢true ok | inr other ↦ cc ]);
  stands = tt;
}

-- ---- how long the journal is
