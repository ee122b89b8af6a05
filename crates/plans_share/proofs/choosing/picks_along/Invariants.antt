use Rattle.std.proofs.Common.{drop}
use Rattle.plans_share.proofs.Walk.{IsUnderway}
use Rattle.plans_share.proofs.choosing.picks_along.Given as goal

abbrev pub invariant-loop-w : goal.invariant-loop-w
invariant-loop-w l = IsUnderway l.offers l.budget l.fn.cost l.picks.items (drop l.w l.offers) l.left
