use Rattle.std.proofs.Common.{◌<◌, ◌≤◌, ◌+◌, ◌-◌, length}
use Rattle.plans_guarantee.specs.Steps.{HasCuts}
use Rattle.plans_guarantee.proofs.steps.count_back.Given as goal

abbrev pub decreases-loop-at : goal.decreases-loop-at
decreases-loop-at l = l.at

abbrev pub invariant-loop-at : goal.invariant-loop-at
invariant-loop-at l = record { inside : l.at < length l.lefts; room : l.count + l.at ≤ length l.lefts; way : HasCuts l.lefts l.at (length l.lefts - 1) l.count }
