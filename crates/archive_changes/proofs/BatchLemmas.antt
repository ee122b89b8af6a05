-- What is known of a batch that was to be made, for the history, and that it is a step of the abstract archive by what reads give.
use Rattle.std.proofs.Common.{◌≡◌, ◌⊎◌, ℕ, ◌+◌, ◌<◌, ◌≤◌, false, [], ◌∷◌, ◌++◌, length, List, Option, Some, None, Result, Ok, Err, IfOk, IsOk, IsTrue, OnOk, inl, inr, refl, ap, subst, sym, ◌∙◌, arith, length-append}
use Rattle.std.specs.List.{flat_map}
use Rattle.std.proofs.lemmas.Bool.{lt-ltb, le-ltb}
use Rattle.machine_model.specs.States.{DiskState}
use Rattle.base_types.specs.Limits.{limit_of}
use Rattle.base_types.specs.declared.which.Which.TheVariants.{Journal}
use Rattle.base_commands.specs.declared.batch.BatchItem.{BatchItem}
use Rattle.base_commands.specs.declared.command.Item.{Item}
use Rattle.lists_versions.specs.Tests.{first_of}
use Rattle.journal_entries.specs.declared.act.Act.{Act}
use Rattle.journal_entries.specs.declared.entry.Entry.{Entry}
use Rattle.journal_entries.specs.declared.entry.Entry.TheVariants.{Batch}
use Rattle.model_archive.specs.declared.refusal.Refusal.{Refusal}
use Rattle.model_archive.specs.declared.refusal.Refusal.TheVariants.{Full}
use Rattle.model_archive.specs.Histories.{History, end_of}
use Rattle.model_archive.specs.Plans.{IsNoPlan}
use Rattle.model_archive.specs.Steps as machine
use Rattle.model_archive.specs.Steps.{Reply, Accepted, Cause, act_of, batch_cause, for_all, full_journal, refused_for}
use Rattle.model_archive.proofs.HistoryLemmas.{end_of-push}
use Rattle.model_archive.proofs.RefusalLemmas.{when_false, when_true}
use Rattle.archive_entries.specs.Batches.{IsNextBatch, IsPreparedBatch}
use Rattle.archive_entries.specs.declared.batching.PreparedBatch.{PreparedBatch}
use Rattle.archive_entries.specs.declared.error.BatchDeclined.{BatchDeclined}
use Rattle.archive_entries.specs.declared.error.BatchDeclined.TheVariants as declines
use Rattle.archive_hand.specs.Adding.{IsDone, IsSpentBut}
use Rattle.archive_hand.specs.Changing.{LeadsBy}
use Rattle.archive_hand.specs.States.{ArchiveState, StandsFor, AreInStepBy, Reaches, with_entry, with_reads}
use Rattle.archive_hand.specs.Stored.{Store, StoreStep, Stocks}
use Rattle.archive_hand.specs.Takes.{Replied, TakesBy}
use Rattle.archive_hand.specs.declared.error.ChangeError.{ChangeError}
use Rattle.archive_hand.specs.declared.error.ChangeError.TheVariants as changes
use Rattle.archive_hand.proofs.ByReadsLemmas.{keeps_leads, keeps_nowhere, still_by, stocks_change, stocks_same}
use Rattle.archive_changes.specs.Adding.{AddsAll, GivesUpAll}
use Rattle.archive_changes.specs.After.{AfterChange}
use Rattle.archive_changes.specs.Endings.{as_whole, changed_all, plainly}
use Rattle.archive_changes.specs.declared.error.BatchError.{BatchError}
use Rattle.archive_changes.specs.declared.error.BatchError.TheVariants as batches

-- ---- for the history

-- for the journal's room a batch is refused whole
abbrev for_room : History → Entry → Option Cause
for_room h e = first_of (for_all (full_journal h e) ∷ [])

cause_full : (h : History) (e : Entry) → limit_of Journal < end_of (h ++ e ∷ []) → for_room h e ≡ Some (record { why = Full Journal (limit_of Journal); index = None })
cause_full h e over = ap (λ (o : Option Refusal). first_of (for_all o ∷ [])) (when_true _ (Full Journal (limit_of Journal)) (lt-ltb (limit_of Journal) (end_of (h ++ e ∷ [])) over))

cause_fits : (h : History) (e : Entry) → end_of (h ++ e ∷ []) ≤ limit_of Journal → for_room h e ≡ None
cause_fits h e within = ap (λ (o : Option Refusal). first_of (for_all o ∷ [])) (when_false _ (Full Journal (limit_of Journal)) (le-ltb (limit_of Journal) (end_of (h ++ e ∷ [])) within))

same_cause : (a b : Refusal) (i j : Option ℕ) → ◌≡◌ {A = Result ℕ BatchError} (Err (batches.Refused a i)) (Err (batches.Refused b j)) → ◌≡◌ {A = Option Cause} (Some (record { why = a; index = i })) (Some (record { why = b; index = j }))
same_cause a b i j is = let why : a ≡ b = cc in let index : i ≡ j = cc in cc

-- what is known of a batch that was made, or for which there was no room
pub adds_batch : (r : Result ℕ ChangeError) (a b : ArchiveState) (h : History) (batch : List Act) (cause : Option Cause) (p : PreparedBatch)
    → StandsFor a h → IsNextBatch h batch p → cause ≡ for_room h (Batch batch)
    → ((why : Refusal) → r ≡ Err (changes.Refused why) → (why ≡ Full Journal (limit_of Journal)) × (limit_of Journal < a.end + 5 + length p.body.items))
    → (IsOk r ⊎ (r ≡ Err changes.Failed) → a.end + 5 + length p.body.items ≤ limit_of Journal)
    → IfOk r (λ n. StandsFor b (h ++ Batch batch ∷ []) × (n ≡ length h + 1)) → AddsAll h (Batch batch) cause (as_whole r) b
adds_batch r a b h batch cause p stands next cause_is full room made = go r full room made
  where
    long : end_of (h ++ Batch batch ∷ []) ≡ a.end + 5 + length p.body.items
    long = omega (arith, stands.end_is, end_of-push h (Batch batch), ap length next.spelled)

    fits : a.end + 5 + length p.body.items ≤ limit_of Journal → cause ≡ None
    fits within = cause_is ∙ cause_fits h (Batch batch) (omega (arith, within, long))

    go : (r : Result ℕ ChangeError) → ((why : Refusal) → r ≡ Err (changes.Refused why) → (why ≡ Full Journal (limit_of Journal)) × (limit_of Journal < a.end + 5 + length p.body.items))
        → (IsOk r ⊎ (r ≡ Err changes.Failed) → a.end + 5 + length p.body.items ≤ limit_of Journal)
        → IfOk r (λ n. StandsFor b (h ++ Batch batch ∷ []) × (n ≡ length h + 1)) → AddsAll h (Batch batch) cause (as_whole r) b
    go (Ok n) full room made = record { refused = λ why index is. absurd cc; allowed = λ is. fits (room (inl refl)); stands = made }
    go (Err (changes.Refused because)) full room made = record {
      refused = λ why index is.
          let (same, over) = full because refl in
          cause_is ∙ cause_full h (Batch batch) (omega (arith, over, long)) ∙ ap (λ (w : Refusal). Some (record { why = w; index = None })) (sym same) ∙ same_cause because why None index is;
      allowed = λ is. elim is [ inl made ↦ absurd cc | inr failed ↦ absurd cc ];
      stands = tt;
    }
    go (Err changes.Failed) full room made = record { refused = λ why index is. absurd cc; allowed = λ is. fits (room (inr refl)); stands = tt }
    go (Err changes.Memory) full room made = record { refused = λ why index is. absurd cc; allowed = λ is. elim is [ inl made ↦ absurd cc | inr failed ↦ absurd cc ]; stands = tt }

-- what is known of a batch that was not prepared
pub adds_declined : (why : BatchDeclined) (error : BatchError) (a b : ArchiveState) (h : History) (items : List BatchItem) → IsPreparedBatch h items (Err why) → GivesUpAll why error a b
    → AddsAll h (Batch (flat_map act_of items)) (batch_cause h items) (Err error) b
adds_declined (declines.Refused because index) error a b h items prepared gives =
    let E : BatchError → Type 0 = λ x. AddsAll h (Batch (flat_map act_of items)) (batch_cause h items) (Err x) b in
    subst E (sym gives.0) (record {
      refused = λ why i is. prepared ∙ same_cause because why index i is;
      allowed = λ is. elim is [ inl made ↦ absurd cc | inr failed ↦ absurd cc ];
      stands = tt;
    })
adds_declined declines.Memory error a b h items prepared gives =
    let E : BatchError → Type 0 = λ x. AddsAll h (Batch (flat_map act_of items)) (batch_cause h items) (Err x) b in
    subst E (sym gives.0) (record { refused = λ why i is. absurd cc; allowed = λ is. elim is [ inl made ↦ absurd cc | inr failed ↦ absurd cc ]; stands = tt })

-- ---- after a call

pub plain_again : (r : Result ℕ ChangeError) → plainly (as_whole r) ≡ r
plain_again (Ok n) = refl
plain_again (Err (changes.Refused why)) = refl
plain_again (Err changes.Failed) = refl
plain_again (Err changes.Memory) = refl

pub on_whole : (r : Result ℕ ChangeError) (X : Type 0) → OnOk r X → OnOk (as_whole r) X
on_whole (Ok n) X is = is
on_whole (Err error) X is = tt

-- an archive that is spent has what it had
pub spent_but : (a : ArchiveState) → IsSpentBut a (record a { live = false })
spent_but a = record { end_is = refl; length_is = refl; changes_are = refl; shelf_is = record { plans_are = refl; room = omega arith; taken = λ es has. has; cache_is = refl }; marked_is = refl; asked_is = refl; job_is = refl; live_is = refl }

-- where a batch was declined, nothing was called
pub declined_after : (tells X : Type 0) (why : BatchDeclined) (error : BatchError) (a b : ArchiveState) (d : DiskState) → X → IsTrue a.live → Reaches d.reach a → GivesUpAll why error a b
    → AfterChange IsSpentBut tells ((b ≡ a) × X) X (plainly (Err error)) d d a b
declined_after tells X (declines.Refused because index) error a b d called live within gives =
    let A : ArchiveState → Type 0 = λ x. AfterChange IsSpentBut tells ((x ≡ a) × X) X (plainly (Err error)) d d a x in
    let E : BatchError → Type 0 = λ e. AfterChange IsSpentBut tells ((a ≡ a) × X) X (plainly (Err e)) d d a a in
    subst A (sym gives.1) (subst E (sym gives.0) (record {
      failed = λ is. absurd cc;
      within = within;
      live = ((λ on. inr (because, refl)), λ done. live);
      same = λ why is. (refl, called);
      memory = λ is. called;
      cached = λ told cached done. cached;
      spent = λ is. elim is [ inl none ↦ absurd cc | inr failed ↦ absurd cc ];
    }))
declined_after tells X declines.Memory error a b d called live within gives =
    let A : ArchiveState → Type 0 = λ x. AfterChange IsSpentBut tells ((x ≡ a) × X) X (plainly (Err error)) d d a x in
    let E : BatchError → Type 0 = λ e. AfterChange IsSpentBut tells ((record a { live = false } ≡ a) × X) X (plainly (Err e)) d d a (record a { live = false }) in
    subst A (sym gives.1) (subst E (sym gives.0) (record {
      failed = λ is. absurd cc;
      within = within;
      live = ((λ on. absurd cc), λ done. undone done);
      same = λ why is. absurd cc;
      memory = λ is. called;
      cached = λ told cached done. cached;
      spent = λ is. spent_but a;
    }))
  where
    undone : {Q : Type 0} → IsDone {T = ℕ} (Err changes.Memory) → Q
    undone (inl made) = absurd cc
    undone (inr (why, is)) = absurd cc

-- ---- a step

-- a refusal that changes nothing
pub refused_by : (s : Store) (item : Item) (reply : Reply) (old : DiskState) (a b : ArchiveState) → AreInStepBy old a s → b ≡ a → StoreStep s item reply (with_reads s b old) → TakesBy s item (Replied reply) old old b
refused_by s item reply old a b in_step same step = (
  with_reads s b old,
  record { step = step; leads = keeps_leads s (with_reads s b old) old old (keeps_nowhere old a s in_step); still = λ none. (refl, refl) },
  still_by old a b s in_step (rw same in_step.stands) (ap (λ (x : ArchiveState). x.asked) same) (rw same in_step.cached) (ap (λ (x : ArchiveState). x.job) same),
)

-- a batch that comes behind the history as an entry, or is refused
pub batch_by : (s : Store) (item : Item) (e : Entry) (cause : Option Cause) (r : Result ℕ BatchError) (old new : DiskState) (a b : ArchiveState) → IsNoPlan e
    → ((reply : Reply) (next : Store) → machine.AddsBatch s.history e cause reply next.history → next.job ≡ s.job → Stocks s next → StoreStep s item reply next)
    → AreInStepBy old a s → AddsAll s.history e cause r b → ((why : Refusal) (index : Option ℕ) → r ≡ Err (batches.Refused why index) → (b ≡ a) × (new ≡ old)) → (r ≡ Err batches.Memory → new ≡ old)
    → LeadsBy s (with_entry s e s.pages b new) old new × OnOk r (AreInStepBy new b (with_entry s e s.pages b new)) → TakesBy s item (changed_all r) old new b
batch_by s item e cause (Ok n) old new a b change step in_step adds same memory (leads, there) =
    let next = with_entry s e s.pages b new in
    let long : n ≡ length next.history = omega (arith, adds.stands.1, length-append s.history (e ∷ [])) in
    let added = subst (λ (o : Option Cause). machine.AddsBatch s.history e o (Accepted n) next.history) (sym (adds.allowed (inl refl))) (refl, ap Accepted long) in
    (next, record { step = step (Accepted n) next added refl (stocks_change s e b new change in_step.live); leads = leads; still = λ none. absurd none }, there)
batch_by s item e cause (Err (batches.Refused why index)) old new a b change step in_step adds same memory (leads, there) =
    let (was, still) = same why index refl in
    let refused = subst (λ (o : Option Cause). machine.AddsBatch s.history e o (refused_for why index) s.history) (sym (adds.refused why index refl)) (refl, refl) in
    subst (λ (d : DiskState). TakesBy s item (Replied (refused_for why index)) old d b) (sym still)
    (refused_by s item (refused_for why index) old a b in_step was (step (refused_for why index) (with_reads s b old) refused refl (stocks_same s b old in_step.live)))
batch_by s item e cause (Err batches.Failed) old new a b change step in_step adds same memory (leads, there) =
    let next = with_entry s e s.pages b new in
    let added = subst (λ (o : Option Cause). machine.AddsBatch s.history e o (Accepted (length next.history)) next.history) (sym (adds.allowed (inr refl))) (refl, refl) in
    inr (Accepted (length next.history), next, record { step = step (Accepted (length next.history)) next added refl (stocks_change s e b new change in_step.live); leads = leads; still = λ none. absurd none })
batch_by s item e cause (Err batches.Memory) old new a b change step in_step adds same memory (leads, there) = rw (memory refl) (keeps_nowhere old a s in_step)
