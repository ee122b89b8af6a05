-- A change that carries out an item is a step of the abstract archive by what reads give.
use Rattle.std.proofs.Common.{◌≡◌, ◌⊎◌, ℕ, [], ◌∷◌, length, Option, Result, Ok, Err, OnOk, refl, inl, inr, ap, subst, sym, arith, length-append}
use Rattle.machine_model.specs.States.{DiskState}
use Rattle.base_commands.specs.declared.command.Item.{Item}
use Rattle.journal_entries.specs.declared.entry.Entry.{Entry}
use Rattle.model_archive.specs.declared.refusal.Refusal.{Refusal}
use Rattle.model_archive.specs.Steps as machine
use Rattle.model_archive.specs.Steps.{Reply, Accepted, Refused}
use Rattle.model_archive.specs.Plans.{IsNoPlan}
use Rattle.archive_hand.specs.States.{ArchiveState, AreInStepBy, with_entry, with_reads}
use Rattle.archive_changes.specs.Adding.{Adds}
use Rattle.archive_hand.specs.Changing.{KeepsBy, LeadsBy}
use Rattle.archive_hand.specs.Stored.{Store, StoreStep, Stocks}
use Rattle.archive_hand.specs.Takes.{Comes, TakesBy}
use Rattle.archive_changes.specs.Endings.{changed, unchanged}
use Rattle.archive_hand.specs.declared.error.ChangeError.{ChangeError}
use Rattle.archive_hand.specs.declared.error.ChangeError.TheVariants as changes
use Rattle.archive_hand.proofs.ByReadsLemmas.{keeps_leads, keeps_nowhere, still_by, stocks_change, stocks_same}

-- a change that was not made: it is refused, or it failed and an outcome may have come of it, or there was no memory
pub unmade_by : (s : Store) (item : Item) (error : ChangeError) (old new : DiskState) (a b : ArchiveState) → AreInStepBy old a s
    → ((why : Refusal) → error ≡ changes.Refused why → (new ≡ old) × StoreStep s item (Refused why) (with_reads s b old) × AreInStepBy old b (with_reads s b old))
    → (error ≡ changes.Failed → KeepsBy s old new ⊎ ((reply : Reply) × (next : Store) × Comes s item reply next old new)) → (error ≡ changes.Memory → new ≡ old) → TakesBy s item (unchanged error) old new b
unmade_by s item (changes.Refused why) old new a b in_step refused failed memory =
    let (still, step, same) = refused why refl in
    let next = with_reads s b old in
    (next, record { step = step; leads = rw still (keeps_leads s next old old (keeps_nowhere old a s in_step)); still = λ none. (refl, refl) }, rw still same)
unmade_by s item changes.Failed old new a b in_step refused failed memory = failed refl
unmade_by s item changes.Memory old new a b in_step refused failed memory = rw (memory refl) (keeps_nowhere old a s in_step)

-- an item that adds an entry, or is refused
pub entry_by : (s : Store) (item : Item) (e : Entry) (refusal : Option Refusal) (r : Result ℕ ChangeError) (old new : DiskState) (a b : ArchiveState) → IsNoPlan e
    → ((reply : Reply) (next : Store) → machine.Adds s.history e refusal reply next.history → next.job ≡ s.job → Stocks s next → StoreStep s item reply next)
    → AreInStepBy old a s → Adds s.history e refusal r b → ((why : Refusal) → r ≡ Err (changes.Refused why) → (b ≡ a) × (new ≡ old)) → (r ≡ Err changes.Memory → new ≡ old)
    → LeadsBy s (with_entry s e s.pages b new) old new × OnOk r (AreInStepBy new b (with_entry s e s.pages b new)) → TakesBy s item (changed r) old new b
entry_by s item e refusal (Ok n) old new a b change step in_step adds same memory (leads, there) =
    let next = with_entry s e s.pages b new in
    let long : n ≡ length next.history = omega (arith, adds.stands.1, length-append s.history (e ∷ [])) in
    let added = subst (λ (o : Option Refusal). machine.Adds s.history e o (Accepted n) next.history) (sym (adds.allowed (inl refl))) (refl, ap Accepted long) in
    (next, record { step = step (Accepted n) next added refl (stocks_change s e b new change in_step.live); leads = leads; still = λ none. absurd none }, there)
entry_by s item e refusal (Err error) old new a b change step in_step adds same memory (leads, there) =
    let next = with_entry s e s.pages b new in
    unmade_by s item error old new a b in_step
    (λ why is.
    let (was, still) = same why (ap Err is) in
    let refused = subst (λ (o : Option Refusal). machine.Adds s.history e o (Refused why) s.history) (sym (adds.refused why (ap Err is))) (refl, refl) in
    (still, step (Refused why) (with_reads s b old) refused refl (stocks_same s b old in_step.live), still_by old a b s in_step (rw was in_step.stands) (ap (λ (x : ArchiveState). x.asked) was) (rw was in_step.cached) (ap (λ (x : ArchiveState). x.job) was)))
    (λ is.
    let added = subst (λ (o : Option Refusal). machine.Adds s.history e o (Accepted (length next.history)) next.history) (sym (adds.allowed (inr (ap Err is)))) (refl, refl) in
    inr (Accepted (length next.history), next, record { step = step (Accepted (length next.history)) next added refl (stocks_change s e b new change in_step.live); leads = leads; still = λ none. absurd none }))
    (λ is. memory (ap Err is))
