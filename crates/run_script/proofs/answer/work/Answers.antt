use Rattle.run_script.proofs.OutcomeLemmas.{on_failed, on_made, worked_by, worked_left}
use Rattle.run_script.proofs.answer.work.Goals as goal

pub returns-clause-disk_fault : goal.returns-clause-disk_fault
returns-clause-disk_fault g c = λ is. on_failed c.advance-stint.result _ (c.write_stint.ensures.fault is) c.advance-stint.ensures.failed

pub returns-clause-left : goal.returns-clause-left
returns-clause-left g c = worked_left _ c.advance-stint.result c.write_stint.result _ _ _ _ c.write_stint.ensures.made c.advance-stint.ensures.live c.advance-stint.ensures.within c.advance-stint.ensures.cached

pub returns-clause-less : goal.returns-clause-less
returns-clause-less g c = on_made c.advance-stint.result c.write_stint.result _ c.write_stint.ensures.made c.advance-stint.ensures.less

pub returns-clause-outcome : goal.returns-clause-outcome
returns-clause-outcome g c = λ tells s in_step. worked_by s c.advance-stint.result _ _ _ _ _ (c.advance-stint.ensures.works tells s in_step) c.write_stint.ensures.writes
