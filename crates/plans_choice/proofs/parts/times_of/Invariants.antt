use Rattle.std.proofs.Common.{◌≡◌, map, take}
use Rattle.base_types.specs.declared.time.Time.{Time}
use Rattle.plans_choice.proofs.parts.times_of.Given as goal

abbrev pub invariant-loop-cut : goal.invariant-loop-cut
invariant-loop-cut l = map (λ (t : Time). t.seconds) l.times.items ≡ take l.cut-index l.cut-items
