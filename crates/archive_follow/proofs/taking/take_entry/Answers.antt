use Rattle.archive_hand.proofs.ByReadsLemmas.{keeps_nowhere}
use Rattle.archive_follow.proofs.taking.take_entry.Goals as goal

pub returns-in-Err-Memory-clause-by_reads : goal.returns-in-Err-Memory-clause-by_reads
returns-in-Err-Memory-clause-by_reads g c = λ tells s in_step idle. keeps_nowhere _ c.args.archive.now s in_step
