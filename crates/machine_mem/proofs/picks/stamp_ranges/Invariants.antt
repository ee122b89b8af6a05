use Rattle.std.proofs.Common.{take}
use Rattle.machine_mem.specs.Stamps.{IsStampedOver}
use Rattle.machine_mem.proofs.picks.stamp_ranges.Given as goal

abbrev pub invariant-loop-range : goal.invariant-loop-range
invariant-loop-range l = IsStampedOver (take l.range-index l.ranges) l.byte l.initial.bytes l.bytes
