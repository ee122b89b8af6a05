-- An item answered and its reply shown: what a call of the archive did, what is written of it, and what is shown of that.
use Rattle.std.proofs.Common.{◌≡◌, ◌↔◌, ℕ, ◌+◌, ◌<◌, ◌≤◌, List, [], ◌++◌, length, All, None, Result, Ok, Err, IsErr, IsOk, IsTrue, OnErr, OnOk, refl, inl, inr, ap, subst, sym, ◌∙◌, arith, append_assoc}
use Rattle.std.proofs.lemmas.Bool.{false≢true}
use Rattle.std.proofs.lemmas.List.{append-nil, append_cancel_left, length-append}
use Rattle.machine_model.specs.Areas.{Bytes}
use Rattle.machine_model.specs.Images.{MayLeave}
use Rattle.machine_model.specs.Pushes.{IsPrefix, IsSameBeside, OnlyShows}
use Rattle.machine_model.specs.States.{DiskState}
use Rattle.base_types.specs.declared.ids.DocId.{DocId}
use Rattle.base_types.specs.declared.time.Time.{Time}
use Rattle.base_commands.specs.declared.command.Command.TheVariants as commands
use Rattle.base_commands.specs.declared.command.Item.{Item}
use Rattle.base_commands.specs.declared.command.Item.TheVariants as items
use Rattle.base_commands.specs.declared.text.Text.{Text}
use Rattle.base_commands.specs.declared.text.Text.TheVariants as texts
use Rattle.journal_entries.specs.Acts.{most_text}
use Rattle.model_archive.specs.declared.refusal.Refusal.{Refusal}
use Rattle.model_archive.specs.declared.refusal.Refusal.TheVariants as refusals
use Rattle.model_archive.specs.Histories.{History}
use Rattle.model_archive.specs.Plans.{live_extents}
use Rattle.model_archive.specs.Replies.{reply_text}
use Rattle.model_archive.specs.Runs.{Outcome}
use Rattle.model_archive.specs.Stands.{bodies_of}
use Rattle.model_archive.specs.Steps.{Reply, Accepted, Finished, Refused, Silent, Step, Version}
use Rattle.model_archive.specs.Worlds.{World}
use Rattle.model_archive.proofs.SpeakLemmas.{Speaks, step_speaks}
use Rattle.model_archive.proofs.RunLemmas.{one_outcome}
use Rattle.journal_gates.specs.InStep.{IsInStep}
use Rattle.journal_gates.specs.Spelled.{Spells}
use Rattle.archive_hand.specs.Changing.{KeepsBy, LeadsBy}
use Rattle.archive_hand.specs.States.{ArchiveState, AreInStepBy, CacheStands, Reaches}
use Rattle.archive_hand.specs.Stored.{Store, HasSame, IsSameStore, Spoils, StandsBy, StoreStep, StoreStint}
use Rattle.archive_hand.specs.Takes.{Ending, Replied, Starved, Faulted, Spoiled, TakesBy, TakesStint, said}
use Rattle.archive_hand.specs.declared.job.Stint.{Stint}
use Rattle.archive_hand.proofs.StandingLemmas.{store_speaks}
use Rattle.machine_model.specs.declared.area.Failed.{Failed}
use Rattle.pages_sublists.specs.declared.why.Damage.{Damage}
use Rattle.archive_hand.proofs.ByReadsLemmas.{keeps_leads, keeps_nowhere, stands_by, stocks_none}
use Rattle.run_script.specs.Causes.{IsLeft}
use Rattle.run_script.specs.Outcomes.{AnswersTo, CanGoOn, CarriesOut, IsAnswered, IsShown, NeverSpoiled, Passes, Writes, WritesStint}
use Rattle.run_script.specs.Statuses.{stop_of_halt}
use Rattle.run_script.specs.declared.stop.Halt.{Halt}
use Rattle.run_script.specs.declared.stop.Halt.TheVariants as halts
use Rattle.run_script.specs.declared.stop.Stop.{Stop}
use Rattle.run_script.specs.declared.stop.Stop.TheVariants as stops

-- where an outcome leaves the history and Pages as they are, each image stands for what was before it
stands_back : (s next : Store) (image : Bytes) → IsSameStore s next → StandsBy next image → StandsBy s image
stands_back s next image (history, pages) stands = record {
  spelled = subst (λ (h : History). Spells image.journal (bodies_of h)) history stands.spelled;
  same = subst (λ (h : History). All (HasSame s.pages image.pages) (live_extents h)) history (subst (λ (ps : List ℕ). All (HasSame ps image.pages) (live_extents next.history)) pages stands.same);
}

leads_back : (s next : Store) (old new : DiskState) → IsSameStore s next → LeadsBy s next old new → KeepsBy s old new
leads_back s next old new same leads = record {
  goes_on = leads.goes_on;
  images = λ image beside left. let was = leads.images image beside left in (elim was.0 [ inl before ↦ before | inr after ↦ stands_back s next image same after ], was.1);
}

-- what is said has bytes
pub speaks_bytes : (r : Reply) → Speaks r → 1 ≤ length (reply_text r)
speaks_bytes (Accepted n) speaks = omega arith
speaks_bytes (Version None) speaks = omega arith
speaks_bytes Silent speaks = absurd speaks
speaks_bytes r speaks = omega (arith, length-append {A = ℕ})

-- and so has each reply to an item
pub some_bytes : (s : Store) (item : Item) (r : Reply) (next : Store) → StoreStep s item r next → 1 ≤ length (reply_text r)
some_bytes s item r next step = speaks_bytes r (store_speaks s item r next step)

pub machine_bytes : (w : World) (item : Item) (r : Reply) (next : World) → Step w item r next → 1 ≤ length (reply_text r)
machine_bytes w item r next step = speaks_bytes r (step_speaks w item r next step)

-- an item that a call took is answered by what is written of the call's end
answers_so : (s : Store) (item : Item) (ending : Ending) (result : Result (Unit {0}) Halt) (old new : DiskState) (archive : ArchiveState) (page : List ℕ)
    → TakesBy s item ending old new archive → Writes ending result page → AnswersTo s (StoreStep s item) (Spoils s item) result old new archive page
answers_so s item (Replied reply) result old new archive page (next, comes, in_step) (inl is) = rw is.0 (reply, next, comes.step, comes.leads, in_step, is.1)
answers_so s item (Replied reply) result old new archive page (next, comes, in_step) (inr (none, tells)) = rw none (leads_back s next old new (comes.still tells) comes.leads)
answers_so s item Starved result old new archive page keeps is = rw is keeps
answers_so s item Faulted result old new archive page (inl keeps) is = rw is (inl keeps)
answers_so s item Faulted result old new archive page (inr (reply, next, comes)) is = rw is (inr (reply, next, comes.step, some_bytes s item reply next comes.step, comes.leads))
answers_so s item (Spoiled damage) result old new archive page spoiled is = rw is spoiled

pub answers_by : (s : Store) (item : Item) (ending : Ending) (result : Result (Unit {0}) Halt) (old new : DiskState) (archive : ArchiveState) (page : List ℕ)
    → TakesBy s item ending old new archive → Writes ending result page → IsAnswered s (StoreStep s item) (Spoils s item) result old new archive page
answers_by s item ending result old new archive page takes writes = record { came = answers_so s item ending result old new archive page takes writes }

-- so is a stint
pub worked_by : (s : Store) (result : Result Stint Failed) (halted : Result (Unit {0}) Halt) (old new : DiskState) (archive : ArchiveState) (page : List ℕ) → TakesStint s result old new archive → WritesStint result halted page
    → IsAnswered s (StoreStint s) NeverSpoiled halted old new archive page
worked_by s (Ok stint) halted old new archive page (next, step, leads, in_step) (is, written) = record { came = rw is (said stint, next, step, leads, in_step, written) }
worked_by s (Err failed) halted old new archive page (inl keeps) is = record { came = rw is (inl keeps) }
worked_by s (Err failed) halted old new archive page (inr (told, next, step, leads)) is = record { came = rw is (inr (Finished told, next, step, speaks_bytes (Finished told) tt, leads)) }

-- what a stint leaves where it was made
pub worked_left : (tells : Type 0) (stint : Result Stint Failed) (result : Result (Unit {0}) Halt) (old new : DiskState) (a b : ArchiveState) → OnOk result (IsOk stint) → (IsTrue b.live ↔ IsOk stint) → Reaches new.reach b → (tells → CacheStands old a → OnOk stint (CacheStands new b))
    → OnOk result (IsLeft tells old new a b)
worked_left tells (Ok stint) (Ok done) old new a b made live reaches cached = record { ready = (live.1 made, reaches); cached = cached }
worked_left tells (Err failed) (Ok done) old new a b made live reaches cached = absurd (false≢true made)
worked_left tells stint (Err halt) old new a b made live reaches cached = tt

-- what is so of each one that was made is so where it was told
pub on_made : (stint : Result Stint Failed) (result : Result (Unit {0}) Halt) (P : Type 0) → OnOk result (IsOk stint) → OnOk stint P → OnOk result P
on_made (Ok stint) (Ok done) P made on = on
on_made (Err failed) (Ok done) P made on = absurd (false≢true made)
on_made stint (Err halt) P made on = tt

-- and of each that failed
pub on_failed : (stint : Result Stint Failed) (P : Type 0) → IsErr stint → OnErr stint P → P
on_failed (Ok stint) P failed on = absurd (false≢true failed)
on_failed (Err error) P failed on = on

-- a plan that is begun, or isn't: the archive is live, and reaches as far
pub begun_left : (tells : Type 0) (result : Result (Unit {0}) Halt) (d : DiskState) (a b : ArchiveState) → CanGoOn a d.reach → b.live ≡ a.live → (Reaches d.reach a → Reaches d.reach b) → (CacheStands d a → CacheStands d b) → OnOk result (IsLeft tells d d a b)
begun_left tells (Ok done) d a b ready live reaches cached = record { ready = (subst IsTrue (sym live) ready.0, reaches ready.1); cached = λ told stands. cached stands }
begun_left tells (Err halt) d a b ready live reaches cached = tt

-- an item that is refused without a call
pub refused_by : (s : Store) (item : Item) (why : Refusal) (result : Result (Unit {0}) Halt) (d : DiskState) (archive : ArchiveState) (page : List ℕ)
    → StoreStep s item (Refused why) s → AreInStepBy d archive s → result ≡ Ok tt → page ≡ reply_text (Refused why) → IsAnswered s (StoreStep s item) (Spoils s item) result d d archive page
refused_by s item why result d archive page step in_step goes_on written = record { came = rw goes_on (Refused why, s, step, keeps_leads s s d d (keeps_nowhere d archive s in_step), in_step, written) }

-- an arrival whose text was too long to be held
pub too_long_by : (s : Store) (doc : DocId) (at : Time) (text : Text) (bytes : ℕ) (result : Result (Unit {0}) Halt) (d : DiskState) (archive : ArchiveState) (page : List ℕ)
    → text ≡ texts.TooLong bytes → AreInStepBy d archive s → result ≡ Ok tt → page ≡ reply_text (Refused (refusals.TooLong most_text)) → IsAnswered s (StoreStep s (items.Command (commands.Arrive doc at text))) (Spoils s (items.Command (commands.Arrive doc at text))) result d d archive page
too_long_by s doc at text bytes result d archive page is in_step goes_on written =
    let A : Text → Type 0 = λ t. IsAnswered s (StoreStep s (items.Command (commands.Arrive doc at t))) (Spoils s (items.Command (commands.Arrive doc at t))) result d d archive page in
    subst A (sym is) (refused_by s (items.Command (commands.Arrive doc at (texts.TooLong bytes))) (refusals.TooLong most_text) result d archive page ((refl, refl), refl, stocks_none s in_step.live) in_step goes_on written)

-- ---- pushes

-- they change no image
pub same_images : (old new : DiskState) → IsSameBeside old new → (image : Bytes) → MayLeave new.now image → MayLeave old.now image
same_images old new same image allowed = λ area. rw (same.stable, same.pending) at (allowed area)

-- so a journal stays in step over them
journal_beside : (old new : DiskState) (end : ℕ) (bodies : List (List ℕ)) → IsSameBeside old new → IsInStep old end bodies → IsInStep new end bodies
journal_beside old new end bodies same step = record {
  gate = step.gate;
  shut = step.shut;
  fit = step.fit;
  end_is = step.end_is;
  images = λ image allowed. step.images image (same_images old new same image allowed);
}

-- and so does an archive
in_step_beside : (old new : DiskState) (archive : ArchiveState) (s : Store) → IsSameBeside old new → AreInStepBy old archive s → AreInStepBy new archive s
in_step_beside old new archive s same in_step =
    let was : AreInStepBy (record new { past = old.past; now = old.now }) archive s = subst (λ (d : DiskState). AreInStepBy d archive s) (sym same.same) in_step in
    record {
      stands = in_step.stands;
      asked_are = in_step.asked_are;
      journal = journal_beside old new archive.end (bodies_of s.history) same in_step.journal;
      pages_are = was.pages_are;
      kept_are = in_step.kept_are;
      read_is = was.read_is;
      job_is = in_step.job_is;
      live = in_step.live;
      same = λ image allowed. in_step.same image (same_images old new same image allowed);
      cached = was.cached;
    }

-- ---- a reply shown

-- the run was stopped before the reply
pub cut_short : (s : Store) (Steps : Reply → Store → Type 0) (Harm : Damage → Type 0) (halt : Halt) (stop : Stop) (before : List ℕ) (old new : DiskState) (archive_now : ArchiveState) (page : List ℕ)
    → IsAnswered s Steps Harm (Err halt) old new archive_now page → stop ≡ stop_of_halt halt → old.now.beside ≡ before → CarriesOut s Steps Harm (Err stop) before before old new archive_now
cut_short s Steps Harm halt stop before old new archive_now page answered is beside = rw is (go halt answered.came)
  where
    go : (h : Halt) → AnswersTo s Steps Harm (Err h) old new archive_now page → CarriesOut s Steps Harm (Err (stop_of_halt h)) before before old new archive_now
    go halts.Disk (inl keeps) = inl (keeps, refl)
    go halts.Disk (inr (reply, next, step, some, leads)) = inr (
      [],
      record {
        outcome = record { reply = reply; next = next };
        step = step;
        carried = record {
          goes_on = leads.goes_on;
          images = λ image other left. let was = leads.images image other left in
              ([], was.1 ∙ beside ∙ sym (append-nil before), elim was.0 [ inl still ↦ inl (still, refl) | inr after ↦ inr (inl (after, (reply_text reply, refl))) ]);
        };
        shown_is = sym (append-nil before);
        front = (reply_text reply, refl);
      },
      omega (arith, some),
    )
    go (halts.Damaged damage) (keeps, spoils, pages) = ((keeps, refl), spoils)
    go halts.Memory keeps = (keeps, refl)

-- by the disk alone
pub halted_passes : (s : Store) (Steps : Reply → Store → Type 0) (Harm : Damage → Type 0) (halt : Halt) (stop : Stop) (old new : DiskState) (archive_now : ArchiveState) (page : List ℕ) → IsAnswered s Steps Harm (Err halt) old new archive_now page → stop ≡ stop_of_halt halt → Passes s Steps Harm (Err stop) new archive_now
halted_passes s Steps Harm halt stop old new archive_now page answered is = rw is (go halt answered.came)
  where
    go : (h : Halt) → AnswersTo s Steps Harm (Err h) old new archive_now page → Passes s Steps Harm (Err (stop_of_halt h)) new archive_now
    go halts.Disk came = tt
    go (halts.Damaged damage) (keeps, spoils, pages) = (spoils, pages)
    go halts.Memory came = tt

pub answered_passes : (s : Store) (Steps : Reply → Store → Type 0) (Harm : Damage → Type 0) (old mid new : DiskState) (archive_now : ArchiveState) (page : List ℕ) → IsAnswered s Steps Harm (Ok tt) old mid archive_now page → IsSameBeside mid new → Passes s Steps Harm (Ok tt) new archive_now
answered_passes s Steps Harm old mid new archive_now page answered same =
    let (reply, next, step, leads, in_step, page_is) = answered.came in (reply, next, step, in_step_beside mid new archive_now next same in_step)

-- what is known of the end of a show: all of the page was shown, or a part
abbrev pub ShownTo : List ℕ → List ℕ → List ℕ → Result (Unit {0}) Stop → Type 0
ShownTo before after page (Ok done) = after ≡ before ++ page
ShownTo before after page (Err stops.Sink) = length after < length before + length page
ShownTo before after page (Err stop) = ⊥

shown_so : (s : Store) (Steps : Reply → Store → Type 0) (Harm : Damage → Type 0) (result : Result (Unit {0}) Stop) (before after : List ℕ) (old mid new : DiskState) (archive_now : ArchiveState) (page : List ℕ)
    → AnswersTo s Steps Harm (Ok tt) old mid archive_now page → old.now.beside ≡ before → OnlyShows mid new before after → IsSameBeside mid new
    → IsPrefix after (before ++ page) → ShownTo before after page result → CarriesOut s Steps Harm result before after old new archive_now
shown_so s Steps Harm result before after old mid new archive_now page (reply, next, step, leads, in_step, page_is) beside shows same front to = go result to
  where
    outcome : Outcome Reply Store
    outcome = record { reply = reply; next = next }

    grows : List ℕ
    grows = shows.grows.0

    grown : IsPrefix after (before ++ reply_text reply)
    grown = rw page_is at front

    still : AreInStepBy new archive_now next
    still = in_step_beside mid new archive_now next same in_step

    is : IsShown s Steps grows before after old new
    is = record {
      outcome = outcome;
      step = step;
      carried = one_outcome reply_text StandsBy s outcome before after old mid new leads.goes_on
          (λ image other left. let was = leads.images image other left in (was.0, was.1 ∙ beside)) shows (stands_by mid archive_now next in_step) grown;
      shown_is = shows.grows.1;
      front = (grown.0, append_cancel_left before (reply_text reply) (grows ++ grown.0) (grown.1 ∙ ap (λ (l : List ℕ). l ++ grown.0) shows.grows.1 ∙ append_assoc before grows grown.0));
    }

    go : (r : Result (Unit {0}) Stop) → ShownTo before after page r → CarriesOut s Steps Harm r before after old new archive_now
    go (Ok done) all = (grows, is, append_cancel_left before grows (reply_text reply) (sym shows.grows.1 ∙ all ∙ ap (λ (t : List ℕ). before ++ t) page_is), still)
    go (Err stops.Sink) short = ((grows, is, omega (arith, short, ap length page_is, ap length shows.grows.1, length-append before grows)), stands_by new archive_now next still)
    go (Err stop) never = absurd never

-- the reply was shown, or a front of it
pub carried_out : (s : Store) (Steps : Reply → Store → Type 0) (Harm : Damage → Type 0) (result : Result (Unit {0}) Stop) (before after : List ℕ) (old mid new : DiskState) (archive_now : ArchiveState) (page : List ℕ)
    → IsAnswered s Steps Harm (Ok tt) old mid archive_now page → old.now.beside ≡ before → OnlyShows mid new before after → IsSameBeside mid new
    → IsPrefix after (before ++ page) → ShownTo before after page result → CarriesOut s Steps Harm result before after old new archive_now
carried_out s Steps Harm result before after old mid new archive_now page answered beside shows same front to = shown_so s Steps Harm result before after old mid new archive_now page answered.came beside shows same front to
