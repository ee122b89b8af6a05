use Rattle.std.proofs.Common.{refl, ap}
use Rattle.base_commands.specs.declared.command.Command.TheVariants as commands
use Rattle.base_commands.specs.declared.command.Item.TheVariants as items
use Rattle.journal_entries.specs.Spelling.{spelling}
use Rattle.journal_entries.specs.declared.entry.Entry.TheVariants as entries
use Rattle.model_archive.specs.Steps.{mark_refusal}
use Rattle.archive_hand.specs.Adding.{IsSpent}
use Rattle.archive_changes.specs.Endings.{changed}
use Rattle.archive_follow.specs.Taken.{as_taken}
use Rattle.archive_follow.proofs.RefusalLemmas.{mark_may, mark_none}
use Rattle.archive_follow.proofs.TakenLemmas.{adds_or_not, after_taken, end_of_change, not_next, spent_but, taken_by, takes_change}
use Rattle.archive_follow.proofs.changing.take_mark.Goals as goal

pub returns-clause-after : goal.returns-clause-after
returns-clause-after g c = rw c.taken.ensures (after_taken IsSpent _ _ _ c.mark_format.result _ _ c.args.archive.now c.mark_format.new.archive (spent_but c.args.archive.now c.mark_format.new.archive) (λ both. both.1) c.mark_format.ensures.after)

pub returns-clause-takes : goal.returns-clause-takes
returns-clause-takes g c = λ h stands.
    let e = entries.Format in
    rw c.taken.ensures (takes_change h e (spelling e) (mark_refusal h) c.mark_format.result c.args.archive.now c.mark_format.new.archive tt refl
    (mark_may h) (mark_none h) stands (λ why is. (c.mark_format.ensures.after.same why is).0)
    (c.mark_format.ensures.adds h stands))

pub returns-clause-by_reads : goal.returns-clause-by_reads
returns-clause-by_reads g c = λ tells s in_step.
    let e = entries.Format in
    rw c.taken.ensures (taken_by s (items.Command commands.Format) e (spelling e) (as_taken c.mark_format.result) (changed c.mark_format.result) _ _ c.args.archive.now c.mark_format.new.archive tt refl
    (λ reply next step. adds_or_not s next e (mark_refusal s.history) reply step.0 step.1 step.2) (end_of_change c.mark_format.result) in_step
    (not_next c.mark_format.result _ (λ why is. let same = c.mark_format.ensures.after.same why is in (same.0, ap g.D.Disk.disk same.1)))
    (c.mark_format.ensures.by_reads tells s in_step))
