use Rattle.machine_model.specs.declared.area.Area.TheVariants.{Journal}
use Rattle.pages_area.proofs.ChangeLemmas.{changes_nothing, changes_written}
use Rattle.pages_area.proofs.WroteLemmas.{written_piece}
use Rattle.pages_area.proofs.pages.Pages.write_extent.Goals as goal

pub returns-then-is_empty-clause-images : goal.returns-then-is_empty-clause-images
returns-then-is_empty-clause-images g c = λ tells. changes_nothing _ _

pub returns-in_err-write-clause-journal : goal.returns-in_err-write-clause-journal
returns-in_err-write-clause-journal g c = c.in_err-write.ensures.between.elsewhere Journal (λ same. cc)

pub returns-in_err-write-clause-images : goal.returns-in_err-write-clause-images
returns-in_err-write-clause-images g c = λ tells.
    changes_written c.args.extent c.start.ensures c.requires (c.write.ensures.images tells) (λ a. g.met.D.Disk.stable_bytes _ a tells)

pub returns-clause-images : goal.returns-clause-images
returns-clause-images g c = λ tells.
    changes_written c.args.extent c.start.ensures c.requires (c.write.ensures.images tells) (λ a. g.met.D.Disk.stable_bytes _ a tells)

pub returns-clause-wrote : goal.returns-clause-wrote
returns-clause-wrote g c = λ tells. written_piece (record { extent = c.args.extent; bytes = c.args.bytes.now }) _ _ _ c.requires c.start.ensures (c.in_ok-write.ensures.holds tells)
