use Rattle.std.proofs.Common.{ap}
use Rattle.base_commands.specs.declared.command.Command.TheVariants as commands
use Rattle.base_commands.specs.declared.command.Item.TheVariants as items
use Rattle.journal_entries.specs.declared.entry.Entry.TheVariants as entries
use Rattle.model_archive.specs.Steps.{deletion_refusal}
use Rattle.archive_changes.proofs.TakeLemmas.{entry_by}
use Rattle.archive_changes.proofs.changing.delete.Goals as goal

pub add-requires-clause-next : goal.add-requires-clause-next
add-requires-clause-next g c = λ h stands.
    let same = c.deletion-prepared.ensures.same in
    (entries.Delete c.args.doc c.args.at, deletion_refusal h c.args.doc c.args.at, rw same (c.deletion-prepared.ensures.prepared h (rw same at stands)))

pub returns-clause-after : goal.returns-clause-after
returns-clause-after g c = rw c.deletion-prepared.ensures.same at c.add.ensures.after

pub returns-clause-adds : goal.returns-clause-adds
returns-clause-adds g c = λ h stands.
    let same = c.deletion-prepared.ensures.same in
    c.add.ensures.adds h _ _ (rw same stands) (rw same (c.deletion-prepared.ensures.prepared h stands))

pub returns-clause-by_reads : goal.returns-clause-by_reads
returns-clause-by_reads g c = λ tells s in_step.
    let same = c.deletion-prepared.ensures.same in
    let after = returns-clause-after g c in
    entry_by s (items.Command (commands.Delete c.args.doc c.args.at)) (entries.Delete c.args.doc c.args.at) (deletion_refusal s.history c.args.doc c.args.at) c.add.result _ _ c.args.archive.now c.add.new.archive tt
    (λ reply next adds job stocks. (adds, job, stocks)) in_step (returns-clause-adds g c s.history in_step.stands) (λ why is. ((after.same why is).0, ap g.D.Disk.disk (after.same why is).1)) (λ is. ap g.D.Disk.disk (after.memory is))
    (c.add.ensures.by_reads tells s (entries.Delete c.args.doc c.args.at) (deletion_refusal s.history c.args.doc c.args.at) (rw same in_step) (rw same (c.deletion-prepared.ensures.prepared s.history in_step.stands)))
