use Rattle.std.proofs.Common.{ℕ, List, refl, ap, subst, ◌∙◌}
use Rattle.base_commands.specs.declared.command.Command.TheVariants as commands
use Rattle.base_commands.specs.declared.command.Item.TheVariants as items
use Rattle.base_commands.specs.declared.text.Text.TheVariants as texts
use Rattle.journal_entries.specs.Spelling.{spelling}
use Rattle.journal_entries.specs.declared.entry.Entry.TheVariants as entries
use Rattle.model_archive.specs.Steps.{arrival_refusal}
use Rattle.archive_hand.specs.Adding.{IsSpent}
use Rattle.archive_hand.specs.Takes.{TakesBy as CarriesBy}
use Rattle.archive_changes.specs.Adding.{Adds}
use Rattle.archive_changes.specs.Endings.{changed}
use Rattle.archive_follow.specs.Taken.{as_taken}
use Rattle.archive_follow.proofs.RefusalLemmas.{arrival_may, arrival_none}
use Rattle.archive_follow.proofs.TakenLemmas.{adds_or_not, after_taken, end_of_change, not_next, spent_but, taken_by, takes_change}
use Rattle.archive_follow.proofs.changing.take_arrival.Goals as goal

pub returns-clause-after : goal.returns-clause-after
returns-clause-after g c = rw c.taken.ensures (after_taken IsSpent _ _ _ c.arrive.result _ _ c.args.archive.now c.arrive.new.archive (spent_but c.args.archive.now c.arrive.new.archive) (λ both. both.1) c.arrive.ensures.after)

pub returns-clause-takes : goal.returns-clause-takes
returns-clause-takes g c = λ h stands.
    let e = entries.Arrive c.args.doc c.args.at c.args.text.now in
    rw c.taken.ensures (takes_change h e (spelling e) (arrival_refusal h c.args.doc c.args.at c.args.text.now) c.arrive.result c.args.archive.now c.arrive.new.archive c.requires.ranges refl
    (arrival_may h c.args.doc c.args.at c.args.text.now c.requires.ranges) (arrival_none h c.args.doc c.args.at c.args.text.now) stands (λ why is. (c.arrive.ensures.after.same why is).0)
    (subst (λ (t : List ℕ). Adds h (entries.Arrive c.args.doc c.args.at t) (arrival_refusal h c.args.doc c.args.at t) c.arrive.result c.arrive.new.archive) (c.as_bytes.ensures.value ∙ c.as_str.ensures) (c.arrive.ensures.adds h stands)))

pub returns-clause-by_reads : goal.returns-clause-by_reads
returns-clause-by_reads g c = λ tells s in_step.
    let e = entries.Arrive c.args.doc c.args.at c.args.text.now in
    rw c.taken.ensures (taken_by s (items.Command (commands.Arrive c.args.doc c.args.at (texts.Bytes c.args.text.now))) e (spelling e) (as_taken c.arrive.result) (changed c.arrive.result) _ _ c.args.archive.now c.arrive.new.archive c.requires.ranges refl
    (λ reply next step. adds_or_not s next e (arrival_refusal s.history c.args.doc c.args.at c.args.text.now) reply step.0 step.1 step.2) (end_of_change c.arrive.result) in_step
    (not_next c.arrive.result _ (λ why is. let same = c.arrive.ensures.after.same why is in (same.0, ap g.D.Disk.disk same.1)))
    (subst (λ (t : List ℕ). CarriesBy s (items.Command (commands.Arrive c.args.doc c.args.at (texts.Bytes t))) (changed c.arrive.result) (g.D.Disk.disk c.args.disk.now) (g.D.Disk.disk c.arrive.new.disk) c.arrive.new.archive) (c.as_bytes.ensures.value ∙ c.as_str.ensures) (c.arrive.ensures.by_reads tells s in_step)))
