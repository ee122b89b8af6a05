use Rattle.std.proofs.lemmas.Result.{on_ok_weaker}
use Rattle.machine_model.specs.declared.area.Area.TheVariants.{Pages}
use Rattle.journal_gates.proofs.WriteLemmas.{through_write, through_sync, stays_synced}
use Rattle.journal_gates.proofs.durable.write_through.Goals as goal

pub returns-in_err-write-clause-pages : goal.returns-in_err-write-clause-pages
returns-in_err-write-clause-pages g c = c.in_err-write.ensures.between.elsewhere Pages (λ same. cc)

pub returns-in_err-write-clause-images : goal.returns-in_err-write-clause-images
returns-in_err-write-clause-images g c = λ tells. through_write (c.write.ensures.images tells) (λ a. g.met.D.Disk.stable_bytes _ a tells)

pub returns-clause-images : goal.returns-clause-images
returns-clause-images g c = λ tells. through_sync (c.write.ensures.images tells) (λ a. g.met.D.Disk.stable_bytes _ a tells) (c.sync.ensures.images tells)

pub returns-clause-stays : goal.returns-clause-stays
returns-clause-stays g c = λ tells. on_ok_weaker c.sync.result (λ synced. stays_synced (c.in_ok-write.ensures.holds tells) (c.sync.ensures.images tells) synced) (c.sync.ensures.durable tells)
