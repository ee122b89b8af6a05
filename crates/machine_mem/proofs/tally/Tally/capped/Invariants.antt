use Rattle.std.proofs.Common.{◌≡◌, ◌-◌, ◌^◌, sum, min, take}
use Rattle.machine_mem.proofs.tally.Tally.capped.Given as goal

abbrev pub invariant-loop-part : goal.invariant-loop-part
invariant-loop-part l = l.total ≡ min (sum (take l.part-index l.self.parts.items)) (2 ^ 64 - 1)
