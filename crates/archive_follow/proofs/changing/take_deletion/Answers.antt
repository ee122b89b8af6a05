use Rattle.std.proofs.Common.{refl, ap}
use Rattle.base_commands.specs.declared.command.Command.TheVariants as commands
use Rattle.base_commands.specs.declared.command.Item.TheVariants as items
use Rattle.journal_entries.specs.Spelling.{spelling}
use Rattle.journal_entries.specs.declared.entry.Entry.TheVariants as entries
use Rattle.model_archive.specs.Steps.{deletion_refusal}
use Rattle.archive_hand.specs.Adding.{IsSpent}
use Rattle.archive_changes.specs.Endings.{changed}
use Rattle.archive_follow.specs.Taken.{as_taken}
use Rattle.archive_follow.proofs.RefusalLemmas.{deletion_may, deletion_none}
use Rattle.archive_follow.proofs.TakenLemmas.{adds_or_not, after_taken, end_of_change, not_next, spent_but, taken_by, takes_change}
use Rattle.archive_follow.proofs.changing.take_deletion.Goals as goal

pub returns-clause-after : goal.returns-clause-after
returns-clause-after g c = rw c.taken.ensures (after_taken IsSpent _ _ _ c.delete.result _ _ c.args.archive.now c.delete.new.archive (spent_but c.args.archive.now c.delete.new.archive) (λ both. both.1) c.delete.ensures.after)

pub returns-clause-takes : goal.returns-clause-takes
returns-clause-takes g c = λ h stands.
    let e = entries.Delete c.args.doc c.args.at in
    rw c.taken.ensures (takes_change h e (spelling e) (deletion_refusal h c.args.doc c.args.at) c.delete.result c.args.archive.now c.delete.new.archive c.requires.ranges refl
    (deletion_may h c.args.doc c.args.at c.requires.ranges) (deletion_none h c.args.doc c.args.at) stands (λ why is. (c.delete.ensures.after.same why is).0)
    (c.delete.ensures.adds h stands))

pub returns-clause-by_reads : goal.returns-clause-by_reads
returns-clause-by_reads g c = λ tells s in_step.
    let e = entries.Delete c.args.doc c.args.at in
    rw c.taken.ensures (taken_by s (items.Command (commands.Delete c.args.doc c.args.at)) e (spelling e) (as_taken c.delete.result) (changed c.delete.result) _ _ c.args.archive.now c.delete.new.archive c.requires.ranges refl
    (λ reply next step. adds_or_not s next e (deletion_refusal s.history c.args.doc c.args.at) reply step.0 step.1 step.2) (end_of_change c.delete.result) in_step
    (not_next c.delete.result _ (λ why is. let same = c.delete.ensures.after.same why is in (same.0, ap g.D.Disk.disk same.1)))
    (c.delete.ensures.by_reads tells s in_step))
