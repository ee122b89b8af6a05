use Rattle.std.proofs.Common.{take}
use Rattle.machine_mem.specs.Faults.{IsSpared}
use Rattle.machine_mem.proofs.faults.Script.due.Given as goal

abbrev pub invariant-loop-fault : goal.invariant-loop-fault
invariant-loop-fault l = IsSpared (take l.fault-index l.fault-items) l.kind l.nth
