use Rattle.std.proofs.Common.{◌<◌, ◌-◌, length, reverse}
use Rattle.plans_guarantee.specs.Steps.{IsWay}
use Rattle.plans_guarantee.proofs.steps.cuts_back.Given as goal

abbrev pub decreases-loop-at : goal.decreases-loop-at
decreases-loop-at l = l.at

abbrev pub invariant-loop-at : goal.invariant-loop-at
invariant-loop-at l = record { inside : l.at < length l.lefts; way : IsWay l.times l.lefts l.at (length l.times - 1) (reverse l.cuts.items) }
