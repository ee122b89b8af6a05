-- A question that carries out an item is a step of the abstract archive by what reads give.
use Rattle.std.proofs.Common.{◌≡◌, ℕ, List, Option, Result, Ok, Err, IfOk, refl, inl, ap, subst, ◌∙◌}
use Rattle.std.specs.Option.{option_map}
use Rattle.machine_model.specs.Images.{MayLeave}
use Rattle.machine_model.specs.States.{DiskState}
use Rattle.machine_model.specs.Calls.{OnlyReads}
use Rattle.base_types.specs.declared.ids.DocId.{DocId}
use Rattle.base_types.specs.declared.time.Time.{Time}
use Rattle.base_commands.specs.declared.command.Command.TheVariants as commands
use Rattle.base_commands.specs.declared.command.Item.{Item}
use Rattle.base_commands.specs.declared.command.Item.TheVariants as items
use Rattle.plans_kinds.specs.declared.proposal.Proposal.{Proposal}
use Rattle.model_archive.specs.declared.refusal.Refusal.{Refusal}
use Rattle.model_archive.specs.Histories.{text_at}
use Rattle.model_archive.specs.Steps.{Reply, Refused, Proposed, Version}
use Rattle.model_archive.specs.Stands.{bodies_of}
use Rattle.model_archive.specs.declared.verdict.Verdict.{Verdict}
use Rattle.archive_check.specs.Checked.{IsChecked}
use Rattle.archive_check.specs.declared.error.VerifyError.{VerifyError}
use Rattle.archive_check.specs.declared.error.VerifyError.TheVariants as checks
use Rattle.archive_hand.specs.States.{ArchiveState, AreInStepBy, CacheStands, IsSameButCache, with_reads}
use Rattle.archive_hand.specs.Stored.{Store, ReadsOn, Spoils, StoreStep, TellsVerdict}
use Rattle.archive_hand.specs.Takes.{Ending, Replied, Starved, Faulted, Spoiled, TakesBy}
use Rattle.archive_questions.specs.Endings.{proposed, told, version_shown, verified}
use Rattle.archive_entries.specs.declared.error.ReadError.{ReadError}
use Rattle.archive_entries.specs.declared.error.ReadError.TheVariants as reads
use Rattle.archive_entries.specs.declared.error.Declined.{Declined}
use Rattle.archive_entries.specs.declared.error.Declined.TheVariants as declines
use Rattle.archive_hand.proofs.ByReadsLemmas.{keeps_leads, keeps_reads, reads_by}
use Rattle.pages_area.specs.Caches.{Kept}
use Rattle.archive_questions.proofs.CacheLemmas.{cache_reads}
use Rattle.journal_gates.proofs.InStepLemmas.{step_spells}
use Rattle.pages_sublists.specs.declared.why.Damage.{Damage}

-- what a question is answered, if it is; or what of it is damaged
abbrev pub IsAnsweredBy : (Reply → Type 0) → (Damage → Type 0) → Ending → Type 0
IsAnsweredBy Q Spoiling (Replied reply) = Q reply
IsAnsweredBy Q Spoiling Starved = Unit {0}
IsAnsweredBy Q Spoiling Faulted = Unit {0}
IsAnsweredBy Q Spoiling (Spoiled damage) = Spoiling damage

-- a question, which leaves the history and Pages as they are
pub question_by : (Q : Reply → Type 0) (s : Store) (item : Item) (ending : Ending) (old new : DiskState) (a b : ArchiveState) → ((reply : Reply) → Q reply → StoreStep s item reply (with_reads s b new)) → OnlyReads old new → IsSameButCache a b
    → CacheStands new b → AreInStepBy old a s → IsAnsweredBy Q (Spoils s item) ending → TakesBy s item ending old new b
question_by Q s item (Replied reply) old new a b step same but cached in_step is =
    let next = with_reads s b new in
    (next, record { step = step reply is; leads = keeps_leads s next old new (keeps_reads old new a s in_step same); still = λ none. (refl, refl) }, reads_by s old new a b in_step same but cached)
question_by Q s item Starved old new a b step same but cached in_step is = keeps_reads old new a s in_step same
question_by Q s item Faulted old new a b step same but cached in_step is = inl (keeps_reads old new a s in_step same)
question_by Q s item (Spoiled damage) old new a b step same but cached in_step is = (keeps_reads old new a s in_step same, is, ap (λ (d : DiskState). d.holds.pages) same ∙ in_step.pages_are)

-- an archive that keeps what it kept, on a disk that read on
reads_on : (s : Store) (old new : DiskState) (a : ArchiveState) → AreInStepBy old a s → ReadsOn s (with_reads s a new)
reads_on s old new a in_step = ap (λ (ks : List Kept). record s { kept = ks; read = new.bytes_read.pages }) in_step.kept_are

-- and on one that didn't
pub no_reads : (s : Store) (d : DiskState) (a : ArchiveState) → AreInStepBy d a s → with_reads s a d ≡ s
no_reads s d a in_step = ap (λ (ks : List Kept). record s { kept = ks; read = d.bytes_read.pages }) in_step.kept_are ∙ ap (λ (n : ℕ). record s { read = n }) in_step.read_is

-- a question that needs no disk
pub told_by : {T : Type 0} (of : T → Reply) (Q : Reply → Type 0) (s : Store) (item : Item) (r : Result T Declined) (d : DiskState) (a : ArchiveState) → ((reply : Reply) (next : Store) → next ≡ s → Q reply → StoreStep s item reply next) → AreInStepBy d a s
    → ((why : Refusal) → r ≡ Err (declines.Refused why) → Q (Refused why)) → IfOk r (λ p. Q (of p)) → TakesBy s item (told of r) d d a
told_by {T} of Q s item r d a step in_step refused told_so = go r refused told_so
  where
    by : (reply : Reply) → Q reply → StoreStep s item reply (with_reads s a d)
    by reply is = step reply (with_reads s a d) (no_reads s d a in_step) is

    go : (r : Result T Declined) → ((why : Refusal) → r ≡ Err (declines.Refused why) → Q (Refused why)) → IfOk r (λ p. Q (of p)) → TakesBy s item (told of r) d d a
    go (Ok p) refused told_so = question_by Q s item (told of (Ok p)) d d a a by refl refl in_step.cached in_step told_so
    go (Err (declines.Refused why)) refused told_so = question_by Q s item (Replied (Refused why)) d d a a by refl refl in_step.cached in_step (refused why refl)
    go (Err declines.Memory) refused told_so = question_by Q s item Starved d d a a by refl refl in_step.cached in_step tt

pub proposal_by : (Q : Reply → Type 0) (s : Store) (item : Item) (r : Result Proposal Declined) (d : DiskState) (a : ArchiveState) → ((reply : Reply) (next : Store) → next ≡ s → Q reply → StoreStep s item reply next) → AreInStepBy d a s
    → ((why : Refusal) → r ≡ Err (declines.Refused why) → Q (Refused why)) → IfOk r (λ p. Q (Proposed p.segments.items p.nodes.items p.space)) → TakesBy s item (proposed r) d d a
proposal_by = told_by (λ (p : Proposal). Proposed p.segments.items p.nodes.items p.space)

-- a version that was asked for
pub show_by : {T : Type 0} (bytes : T → List ℕ) (s : Store) (doc : DocId) (at : Time) (r : Result (Option T) ReadError) (old new : DiskState) (a : ArchiveState)
    → IfOk r (λ text. option_map bytes text ≡ text_at s.history doc at.seconds) → OnlyReads old new → AreInStepBy old a s → TakesBy s (items.Command (commands.Show doc at)) (version_shown bytes r) old new a
show_by {T} bytes s doc at r old new a is same in_step =
    question_by (λ reply. reply ≡ Version (text_at s.history doc at.seconds)) s (items.Command (commands.Show doc at)) (version_shown bytes r) old new a a (λ reply shown. (reads_on s old new a in_step, shown)) same refl (cache_reads old new a same in_step.cached) in_step (go r is)
  where
    go : (r : Result (Option T) ReadError) → IfOk r (λ text. option_map bytes text ≡ text_at s.history doc at.seconds)
        → IsAnsweredBy (λ reply. reply ≡ Version (text_at s.history doc at.seconds)) (Spoils s (items.Command (commands.Show doc at))) (version_shown bytes r)
    go (Ok text) is = ap Version is
    go (Err reads.Failed) is = tt
    go (Err reads.Memory) is = tt

-- a check
pub verify_by : (s : Store) (r : Result Verdict VerifyError) (old new : DiskState) (a : ArchiveState) → MayLeave old.now old.holds → IfOk r (IsChecked s.history old.holds) → OnlyReads old new → AreInStepBy old a s
    → TakesBy s (items.Command commands.Verify) (verified r) old new a
verify_by s r old new a allowed checked same in_step =
    question_by (TellsVerdict s) s (items.Command commands.Verify) (verified r) old new a a (λ reply is. (reads_on s old new a in_step, is)) same refl (cache_reads old new a same in_step.cached) in_step (go r checked)
  where
    go : (r : Result Verdict VerifyError) → IfOk r (IsChecked s.history old.holds) → IsAnsweredBy (TellsVerdict s) (Spoils s (items.Command commands.Verify)) (verified r)
    go (Ok verdict) checked = (
      old.holds.journal,
      verdict,
      step_spells old a.end (bodies_of s.history) in_step.journal old.holds allowed,
      subst (λ (pages : List ℕ). IsChecked s.history (record { journal = old.holds.journal; pages = pages }) verdict) in_step.pages_are checked,
      refl,
    )
    go (Err checks.Failed) checked = tt
    go (Err checks.Memory) checked = tt
