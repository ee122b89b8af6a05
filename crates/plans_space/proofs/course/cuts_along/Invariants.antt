use Rattle.std.proofs.Common.{◌-◌, length}
use Rattle.plans_space.specs.Steps.{leg_charge, leg_cost}
use Rattle.plans_space.proofs.CourseLemmas.{IsUnderway}
use Rattle.plans_space.proofs.course.cuts_along.Given as goal

abbrev pub invariant-loop-at : goal.invariant-loop-at
invariant-loop-at l = IsUnderway (leg_charge l.table l.limits.unit l.places) (leg_cost l.table l.sums l.places) l.table.boundaries l.places (length l.places) (length l.places - 1) l.limits.budget l.fn.cost l.cuts.items l.at l.left

abbrev pub decreases-loop-at : goal.decreases-loop-at
decreases-loop-at l = l.at
