use Rattle.std.proofs.Common.{ap}
use Rattle.base_commands.specs.declared.command.Command.TheVariants as commands
use Rattle.base_commands.specs.declared.command.Item.TheVariants as items
use Rattle.base_commands.specs.declared.text.Text.TheVariants as texts
use Rattle.journal_entries.specs.declared.entry.Entry.TheVariants as entries
use Rattle.model_archive.specs.Steps.{arrival_refusal}
use Rattle.archive_changes.proofs.TakeLemmas.{entry_by}
use Rattle.archive_changes.proofs.changing.arrive.Goals as goal

pub add-requires-clause-next : goal.add-requires-clause-next
add-requires-clause-next g c = λ h stands.
    let same = c.arrival-prepared.ensures.same in
    (entries.Arrive c.args.doc c.args.at c.args.text.now, arrival_refusal h c.args.doc c.args.at c.args.text.now, rw same (c.arrival-prepared.ensures.prepared h (rw same at stands)))

pub returns-clause-after : goal.returns-clause-after
returns-clause-after g c = rw c.arrival-prepared.ensures.same at c.add.ensures.after

pub returns-clause-adds : goal.returns-clause-adds
returns-clause-adds g c = λ h stands.
    let same = c.arrival-prepared.ensures.same in
    c.add.ensures.adds h _ _ (rw same stands) (rw same (c.arrival-prepared.ensures.prepared h stands))

pub returns-clause-by_reads : goal.returns-clause-by_reads
returns-clause-by_reads g c = λ tells s in_step.
    let same = c.arrival-prepared.ensures.same in
    let after = returns-clause-after g c in
    entry_by s (items.Command (commands.Arrive c.args.doc c.args.at (texts.Bytes c.args.text.now))) (entries.Arrive c.args.doc c.args.at c.args.text.now) (arrival_refusal s.history c.args.doc c.args.at c.args.text.now) c.add.result _ _ c.args.archive.now c.add.new.archive tt
    (λ reply next adds job stocks. (adds, job, stocks)) in_step (returns-clause-adds g c s.history in_step.stands) (λ why is. ((after.same why is).0, ap g.D.Disk.disk (after.same why is).1)) (λ is. ap g.D.Disk.disk (after.memory is))
    (c.add.ensures.by_reads tells s (entries.Arrive c.args.doc c.args.at c.args.text.now) (arrival_refusal s.history c.args.doc c.args.at c.args.text.now) (rw same in_step) (rw same (c.arrival-prepared.ensures.prepared s.history in_step.stands)))
