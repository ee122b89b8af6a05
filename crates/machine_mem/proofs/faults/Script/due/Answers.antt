use Rattle.machine_mem.proofs.FaultLemmas.{spared_more, spared_all}
use Rattle.machine_mem.proofs.faults.Script.due.Goals as goal

pub loop-fault-preserved : goal.loop-fault-preserved
loop-fault-preserved c =
    spared_more _ c.args.kind c.raise-nth.result c.loop-fault.fault-index _ c.is_for.result c.loop-fault-test.true c.loop-fault.invariant c.is_for.ensures c.if-is_for.false

pub returns-clause-spared : goal.returns-clause-spared
returns-clause-spared c =
    spared_all _ _ c.args.kind c.raise-nth.result _ c.loop-fault.fault-index c.deref-fault-items.ensures.value c.raise-nth.ensures.number c.loop-fault-test.false c.loop-fault.invariant
