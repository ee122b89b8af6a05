-- What is known of an entry that was to be added, for the history, and by what reads give.
use Rattle.std.proofs.Common.{◌≡◌, ◌⊎◌, ℕ, ◌+◌, ◌<◌, ◌≤◌, List, [], ◌∷◌, ◌++◌, length, All, Option, Some, None, Result, Ok, Err, IfOk, IsOk, inl, inr, refl, ap, subst, sym, ◌∙◌, arith, OnOk}
use Rattle.machine_model.specs.Areas.{Bytes}
use Rattle.pages_area.specs.Live.{AreLive}
use Rattle.machine_model.specs.States.{DiskState, moment}
use Rattle.machine_model.specs.Images.{MayLeave}
use Rattle.machine_model.proofs.MomentLemmas.{allowed_left}
use Rattle.base_types.specs.Limits.{limit_of}
use Rattle.base_types.specs.declared.which.Which.TheVariants.{Journal}
use Rattle.lists_versions.specs.declared.change.Change.{Change}
use Rattle.journal_gates.specs.InStep.{IsInStep}
use Rattle.journal_gates.specs.Crash.{Appends, KeepsPages}
use Rattle.journal_entries.specs.Spelling.{spelling}
use Rattle.journal_entries.specs.declared.entry.Entry.{Entry}
use Rattle.model_archive.specs.Histories.{History}
use Rattle.model_archive.specs.Plans.{live_extents, IsNoPlan}
use Rattle.model_archive.proofs.HoldLemmas.{same_live}
use Rattle.model_archive.specs.Stands.{bodies_of}
use Rattle.model_archive.proofs.HistoryLemmas.{end_of-push}
use Rattle.model_archive.specs.declared.refusal.Refusal.{Refusal}
use Rattle.model_archive.specs.declared.refusal.Refusal.TheVariants.{Full}
use Rattle.lists_versions.specs.Tests.{first_of}
use Rattle.model_archive.specs.Steps.{full_journal}
use Rattle.model_archive.proofs.RefusalLemmas.{cause, cause-allowed, cause-full, cause-none}
use Rattle.archive_hand.specs.Jobs.{plain_job}
use Rattle.archive_hand.specs.States.{ArchiveState, StandsFor, CacheStands, AreInStepBy, with_entry}
use Rattle.archive_plans.specs.Shelves.{extents_all}
use Rattle.lists_index.specs.Indexes.{IsPreparedFor}
use Rattle.lists_index.specs.declared.prepared.Prepared.{Prepared as Words}
use Rattle.archive_changes.specs.Adding.{Adds}
use Rattle.archive_hand.specs.Adding.{GivesUp, IsMore}
use Rattle.archive_entries.specs.Entries.{IsNext, IsPrepared, document_of, text_of}
use Rattle.archive_entries.proofs.IndexLemmas.{change_comes}
use Rattle.archive_hand.specs.declared.error.ChangeError.{ChangeError}
use Rattle.archive_hand.specs.declared.error.ChangeError.TheVariants as errors
use Rattle.archive_entries.specs.declared.error.Declined.{Declined}
use Rattle.archive_entries.specs.declared.preparing.Prepared.{Prepared}
use Rattle.archive_hand.specs.Changing.{LeadsBy}
use Rattle.model_archive.specs.declared.stored.StoredPlan.{StoredPlan}
use Rattle.archive_hand.specs.Stored.{Store, HasSame}
use Rattle.archive_hand.proofs.AddLemmas.{bodies_more, stands_more}
use Rattle.archive_hand.proofs.GiveUpLemmas.{given_up_never, given_up_refused}
use Rattle.archive_hand.proofs.ByReadsLemmas.{same_as}

-- ---- for the history

-- what is known of an entry that was added, or for which there was no room
pub adds_entry : (r : Result ℕ ChangeError) (a b : ArchiveState) (h : History) (e : Entry) (refusal : Option Refusal) (x : Change ℕ) (body : List ℕ) (words : Words)
    → StandsFor a h → IsNext h e x body → IsPreparedFor a.index (document_of e) (text_of e) words → refusal ≡ first_of (full_journal h e ∷ [])
    → ((why : Refusal) → r ≡ Err (errors.Refused why) → (why ≡ Full Journal (limit_of Journal)) × (limit_of Journal < a.end + 5 + length body))
    → (IsOk r ⊎ (r ≡ Err errors.Failed) → a.end + 5 + length body ≤ limit_of Journal)
    → IfOk r (λ n. IsMore a b x body words × (n ≡ b.length)) → Adds h e refusal r b
adds_entry r a b h e refusal x body words stands next prepared cause_is full room more =
    let here : refusal ≡ cause h e = cause_is ∙ sym (cause-allowed h e next.legal.allowed) in
    record {
      refused = λ why is.
          let (because, over) = full why is in
          here ∙ cause-full h e next.legal.allowed (omega (arith, over, stands.end_is, end_of-push h e, ap length next.spelled)) ∙ ap (λ (w : Refusal). Some w) (sym because);
      allowed = λ is. here ∙ cause-none h e next.legal.allowed (omega (arith, room is, stands.end_is, end_of-push h e, ap length next.spelled));
      stands = go r more;
    }
  where
    go : (r : Result ℕ ChangeError) → IfOk r (λ n. IsMore a b x body words × (n ≡ b.length)) → IfOk r (λ n. StandsFor b (h ++ e ∷ []) × (n ≡ length h + 1))
    go (Ok n) more = (stands_more a b h e x body words stands next prepared more.0, omega (arith, more.1, more.0.length_is, stands.length_is))
    go (Err error) more = tt

-- what is known of an entry that was not prepared
pub adds_none : (why : Declined) (error : ChangeError) (a b : ArchiveState) (h : History) (e : Entry) (refusal : Option Refusal)
    → IsPrepared h a.index e refusal (Err why) → GivesUp why error a b → Adds h e refusal (Err error) b
adds_none why error a b h e refusal prepared gives = record {
  refused = λ because is. given_up_refused {T = Prepared} (λ w _. refusal ≡ Some w) why error a b because gives (λ other one. subst (IsPrepared h a.index e refusal) one prepared) is;
  allowed = λ is. given_up_never (refusal ≡ None) why error a b gives is;
  stands = tt;
}

-- ---- by what reads give, whatever lies in Pages

-- where pages are kept, each live place has the bytes that it had
pub pages_keep : (s : Store) (old new : DiskState) → ((image : Bytes) → MayLeave old.now image → All (HasSame s.pages image.pages) (live_extents s.history)) → KeepsPages old new
    → (image : Bytes) → MayLeave new.now image → All (HasSame s.pages image.pages) (live_extents s.history)
pages_keep s old new same pages image allowed =
    let was = pages.images image new.now.beside (allowed_left new (moment old) image allowed) in
    same_as s.pages was.0.pages image.pages (live_extents s.history) was.2 (same was.0 was.1)

pub leads_change : (s : Store) (e : Entry) (body : List ℕ) (old new : DiskState) (a b : ArchiveState) → AreInStepBy old a s → IsNoPlan e → body ≡ spelling e → Appends (bodies_of s.history) body old new → KeepsPages old new
    → LeadsBy s (with_entry s e s.pages b new) old new
leads_change s e body old new a b in_step change same appends pages = record {
  goes_on = appends.goes_on;
  images = λ image beside left.
      let was = appends.images image beside left in
      let on = pages.images image beside left in
      let there = same_as s.pages on.0.pages image.pages (live_extents s.history) on.2 (in_step.same on.0 on.1) in (
        elim was.0 [
          | inl spelled ↦ inl (record { spelled = spelled; same = there })
          | inr spelled ↦ inr (record {
            spelled = rw (← bodies_more s.history e body same) spelled;
            same = subst (λ (l : List StoredPlan). All (HasSame s.pages image.pages) (extents_all l)) (sym (same_live s.history e change)) there;
          })
        ],
        was.1,
      );
}

pub entry_led : (r : Result ℕ ChangeError) (b : ArchiveState) (old new : DiskState) (s : Store) (e : Entry) (body : List ℕ) (a : ArchiveState)
    → AreInStepBy old a s → IsNoPlan e → body ≡ spelling e → IfOk r (λ _. StandsFor b (s.history ++ e ∷ [])) → Appends (bodies_of s.history) body old new
    → KeepsPages old new → OnOk r (new.holds.pages ≡ old.holds.pages) → OnOk r (IsInStep new b.end (bodies_of s.history ++ body ∷ [])) → (IsOk r → CacheStands new b) → (IsOk r → b.asked ≡ a.asked) → (IsOk r → b.job ≡ a.job)
    → LeadsBy s (with_entry s e s.pages b new) old new × OnOk r (AreInStepBy new b (with_entry s e s.pages b new))
entry_led r b old new s e body a in_step change same stands appends pages held step cached unasked still = (leads_change s e body old new a b in_step change same appends pages, go r stands held step cached unasked still)
  where
    go : (r : Result ℕ ChangeError) → IfOk r (λ _. StandsFor b (s.history ++ e ∷ [])) → OnOk r (new.holds.pages ≡ old.holds.pages) → OnOk r (IsInStep new b.end (bodies_of s.history ++ body ∷ [])) → (IsOk r → CacheStands new b) → (IsOk r → b.asked ≡ a.asked) → (IsOk r → b.job ≡ a.job)
        → OnOk r (AreInStepBy new b (with_entry s e s.pages b new))
    go (Ok n) stands held step cached unasked still =
        record {
          stands = stands;
          asked_are = unasked refl ∙ in_step.asked_are;
          journal = rw (← bodies_more s.history e body same) step;
          pages_are = held ∙ in_step.pages_are;
          kept_are = refl;
          read_is = refl;
          job_is = ap plain_job (still refl) ∙ in_step.job_is;
          live = subst (λ (l : List StoredPlan). AreLive (extents_all l) (length s.pages)) (sym (same_live s.history e change)) in_step.live;
          same = λ image allowed. subst (λ (l : List StoredPlan). All (HasSame s.pages image.pages) (extents_all l)) (sym (same_live s.history e change)) (pages_keep s old new in_step.same pages image allowed);
          cached = cached refl;
        }
    go (Err error) stands held step cached unasked still = tt

pub adds_by : (r : Result ℕ ChangeError) (a b : ArchiveState) (old new : DiskState) (s : Store) (e : Entry) (x : Change ℕ) (body : List ℕ) (words : Words)
    → AreInStepBy old a s → IsNext s.history e x body → IsPreparedFor a.index (document_of e) (text_of e) words → IfOk r (λ n. IsMore a b x body words × (n ≡ b.length)) → Appends (bodies_of s.history) body old new
    → KeepsPages old new → OnOk r (new.holds.pages ≡ old.holds.pages) → OnOk r (IsInStep new b.end (bodies_of s.history ++ body ∷ [])) → (IsOk r → CacheStands new b)
    → LeadsBy s (with_entry s e s.pages b new) old new × OnOk r (AreInStepBy new b (with_entry s e s.pages b new))
adds_by r a b old new s e x body words in_step next prepared more appends pages held step cached =
    entry_led r b old new s e body a in_step (change_comes s.history e x in_step.stands.loadable next.legal.allowed next.makes).0 next.spelled (go r more) appends pages held step cached (asked r more) (job r more)
  where
    go : (r : Result ℕ ChangeError) → IfOk r (λ n. IsMore a b x body words × (n ≡ b.length)) → IfOk r (λ _. StandsFor b (s.history ++ e ∷ []))
    go (Ok n) more = stands_more a b s.history e x body words in_step.stands next prepared more.0
    go (Err error) more = tt

    asked : (r : Result ℕ ChangeError) → IfOk r (λ n. IsMore a b x body words × (n ≡ b.length)) → IsOk r → b.asked ≡ a.asked
    asked (Ok n) more ok = more.0.asked_is
    asked (Err error) more ok = absurd cc

    job : (r : Result ℕ ChangeError) → IfOk r (λ n. IsMore a b x body words × (n ≡ b.length)) → IsOk r → b.job ≡ a.job
    job (Ok n) more ok = more.0.job_is
    job (Err error) more ok = absurd cc
