use Rattle.machine_mem.specs.Stamps.{IsStamped}
use Rattle.machine_mem.proofs.picks.stamp.Given as goal

abbrev pub invariant-loop-place : goal.invariant-loop-place
invariant-loop-place l = IsStamped l.start l.place l.byte l.initial.bytes l.bytes
