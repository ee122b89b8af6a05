use Rattle.std.proofs.Common.{◌∙◌, ℕ, List, Some, refl, ap, subst, sym, length}
use Rattle.journal_entries.specs.declared.entry.Entry.{Entry}
use Rattle.journal_entries.specs.declared.entry.Entry.TheVariants.{Arrive, Delete, Batch}
use Rattle.journal_entries.specs.Spelling.{spelling, IsEntry}
use Rattle.archive_entries.specs.Replaying.{IsFaulty}
use Rattle.archive_entries.proofs.replaying.apply_entry.Goals as goal

pub apply_change-requires-clause-makes : goal.apply_change-requires-clause-makes
apply_change-requires-clause-makes c =
    let E : Entry → Type 0 = λ e. IsEntry e in
    let text = sym c.as_str-text.ensures in
    (Arrive c.in-Arrive.doc c.in-Arrive.at c.in-Arrive.text, subst E c.in-Arrive.is c.requires.ranges, (refl, refl, ap (λ (l : List ℕ). Some (length l)) (sym text)), ap Some (sym text), ap (λ (e : Entry). length (spelling e)) (sym c.in-Arrive.is) ∙ c.requires.long)

pub apply_change-requires-in-Delete-clause-makes : goal.apply_change-requires-in-Delete-clause-makes
apply_change-requires-in-Delete-clause-makes c =
    let E : Entry → Type 0 = λ e. IsEntry e in
    (Delete c.in-Delete.doc c.in-Delete.at, subst E c.in-Delete.is c.requires.ranges, (refl, refl, refl), refl, ap (λ (e : Entry). length (spelling e)) (sym c.in-Delete.is) ∙ c.requires.long)

pub returns-in-Planned-clause-bad : goal.returns-in-Planned-clause-bad
returns-in-Planned-clause-bad c = λ h reached loads at is.
    let F : Entry → Type 0 = λ e. IsFaulty c.args.head.now.gate h (spelling e) at in
    subst F (sym c.in-Planned.is) (c.apply_plan.ensures.bad h reached at is)

pub returns-in-Format-clause-bad : goal.returns-in-Format-clause-bad
returns-in-Format-clause-bad c = λ h reached loads at is.
    let F : Entry → Type 0 = λ e. IsFaulty c.args.head.now.gate h (spelling e) at in
    subst F (sym c.in-Format.is) (c.apply_mark.ensures.bad h reached at is)

pub returns-in-Delete-clause-bad : goal.returns-in-Delete-clause-bad
returns-in-Delete-clause-bad c = λ h reached loads at is.
    let E : Entry → Type 0 = λ e. IsEntry e in
    let F : Entry → Type 0 = λ e. IsFaulty c.args.head.now.gate h (spelling e) at in
    subst F (sym c.in-Delete.is) (c.apply_change-in-Delete.ensures.bad h (Delete c.in-Delete.doc c.in-Delete.at) reached loads (subst E c.in-Delete.is c.requires.ranges) (refl, refl, refl) refl at is)

pub returns-in-Batch-clause-bad : goal.returns-in-Batch-clause-bad
returns-in-Batch-clause-bad c = λ h reached loads at is.
    let F : Entry → Type 0 = λ e. IsFaulty c.args.head.now.gate h (spelling e) at in
    subst F (sym (c.in-Batch.is ∙ ap Batch (sym c.as_slice.ensures))) (c.apply_batch.ensures.bad h reached loads at is)
