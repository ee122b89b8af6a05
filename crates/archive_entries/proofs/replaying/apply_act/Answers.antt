use Rattle.std.proofs.Common.{◌≡◌, List, ℕ, Some, None, length, refl, ap, subst}
use Rattle.journal_entries.specs.Acts.{alone, IsAct}
use Rattle.journal_entries.specs.declared.act.Act.{Act}
use Rattle.journal_entries.specs.declared.entry.Entry.TheVariants.{Arrive, Delete}
use Rattle.model_archive.specs.Histories.{entry_refusal}
use Rattle.archive_entries.proofs.replaying.apply_act.Goals as goal

pub add_change-requires : goal.add_change-requires
add_change-requires c =
    record { makes = (Arrive c.in-Arrive.doc c.in-Arrive.time c.in-Arrive.text, subst IsAct c.in-Arrive.is c.requires.ranges, (refl, refl, ap (λ (l : List ℕ). Some (length l)) c.as_str-text.ensures), ap Some c.as_str-text.ensures) }

pub add_change-requires-in-Delete : goal.add_change-requires-in-Delete
add_change-requires-in-Delete c = record { makes = (Delete c.in-Delete.doc c.in-Delete.time, subst IsAct c.in-Delete.is c.requires.ranges, (refl, refl, refl), refl) }

pub returns-in-Arrive-clause-bad : goal.returns-in-Arrive-clause-bad
returns-in-Arrive-clause-bad c = λ h met place is.
    let R : Act → Type 0 = λ act. entry_refusal h (alone act) ≡ None in
    let bad = c.add_change.ensures.bad h (Arrive c.in-Arrive.doc c.in-Arrive.time c.in-Arrive.text) met (refl, refl, ap (λ (l : List ℕ). Some (length l)) c.as_str-text.ensures) (ap Some c.as_str-text.ensures) place is in
    (bad.0, λ may. bad.1 (subst R c.in-Arrive.is may))

pub returns-in-Delete-clause-bad : goal.returns-in-Delete-clause-bad
returns-in-Delete-clause-bad c = λ h met place is.
    let R : Act → Type 0 = λ act. entry_refusal h (alone act) ≡ None in
    let bad = c.add_change-in-Delete.ensures.bad h (Delete c.in-Delete.doc c.in-Delete.time) met (refl, refl, refl) refl place is in
    (bad.0, λ may. bad.1 (subst R c.in-Delete.is may))
