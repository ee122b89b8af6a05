use Rattle.std.proofs.Common.{◌+◌}
use Rattle.plans_share.specs.Steps.{AreRows}
use Rattle.plans_share.proofs.settling.settle.Given as goal

abbrev pub invariant-loop-i : goal.invariant-loop-i
invariant-loop-i l = AreRows l.offers (l.budget + 1) l.rows.items (l.i + 1)
