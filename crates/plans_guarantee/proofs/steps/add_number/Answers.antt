use Rattle.std.proofs.Common.{◌+◌}
use Rattle.plans_guarantee.proofs.Settling.{costs_kept}
use Rattle.plans_guarantee.proofs.steps.add_number.Goals as goal

pub returns-clause-costs : goal.returns-clause-costs
returns-clause-costs c =
    costs_kept c.args.table.now c.args.pi.now.items c.push.new.self.items c.cheapest_left.new.window c.args.k (c.index.result.now + c.size.result) c.requires.long c.in_ok-left.ensures.next c.in_ok-push.ensures.items
    (rw c.deref.ensures.value at c.in_ok-left.ensures.costs)
