use Rattle.std.proofs.Common.{refl, ap, sym, subst}
use Rattle.base_commands.specs.declared.batch.BatchItems.{BatchItems}
use Rattle.base_commands.specs.declared.command.Command.TheVariants as commands
use Rattle.base_commands.specs.declared.command.Item.TheVariants as given
use Rattle.model_archive.specs.Steps.{Batches, Refused}
use Rattle.archive_hand.proofs.AddLemmas.{pages_nowhere}
use Rattle.archive_hand.proofs.ByReadsLemmas.{stocks_same}
use Rattle.archive_changes.proofs.BatchLemmas.{refused_by}
use Rattle.archive_changes.proofs.batching.batch.Goals as goal

pub returns-in-TooLong-clause-by_reads : goal.returns-in-TooLong-clause-by_reads
returns-in-TooLong-clause-by_reads g c = λ tells s in_step.
    let disk = g.D.Disk.disk c.args.disk.now in
    let B : BatchItems → Type 0 = λ items. Batches s.history items (Refused c.too_long.result) s.history in
    refused_by s (given.Command (commands.Batch c.args.items.now)) (Refused c.too_long.result) disk c.args.archive.now c.args.archive.now in_step refl
    (subst B (sym c.in-TooLong.is) (refl, ap Refused (c.too_long.ensures s.history in_step.stands)), refl, stocks_same s c.args.archive.now disk in_step.live)

pub returns-in-TooLong-clause-pages : goal.returns-in-TooLong-clause-pages
returns-in-TooLong-clause-pages g c = λ tells. pages_nowhere _
