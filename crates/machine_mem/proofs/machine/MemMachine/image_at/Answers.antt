use Rattle.machine_mem.proofs.RecallLemmas.{left_at}
use Rattle.machine_mem.proofs.machine.MemMachine.image_at.Goals as goal

pub returns-clause-left : goal.returns-clause-left
returns-clause-left c = left_at c.args.self.now c.args.moment _ _ _ c.in_ok-then.ensures c.in_ok-picked.ensures
