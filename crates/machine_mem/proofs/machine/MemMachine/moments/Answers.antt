use Rattle.machine_mem.proofs.RecallLemmas.{after_calls-now}
use Rattle.machine_mem.proofs.machine.MemMachine.moments.Goals as goal

pub returns-clause-last : goal.returns-clause-last
returns-clause-last c = after_calls-now c.args.self.now
