-- Counts of faults over calls in a row, and with which ends a run may end.
use Rattle.std.proofs.Common.{arith}
use Rattle.machine_model.specs.States.{MachineState}
use Rattle.run_taking.specs.Following.{IsLater, MayEnd}
use Rattle.run_taking.specs.declared.ended.Ended.{Ended}

pub later_joins : (a b c : MachineState) → IsLater a b → IsLater b c → IsLater a c
later_joins a b c one two = record { source = omega (arith, one.source, two.source); sink = omega (arith, one.sink, two.sink); disk = omega (arith, one.disk, two.disk) }

pub may_end_later : (end : Ended) (a b c : MachineState) → IsLater a b → MayEnd end b c → MayEnd end a c
may_end_later end a b c later may = record {
  source = λ is. omega (arith, later.source, may.source is);
  sink = λ is. omega (arith, later.sink, may.sink is);
  disk = λ is. omega (arith, later.disk, may.disk is);
}
