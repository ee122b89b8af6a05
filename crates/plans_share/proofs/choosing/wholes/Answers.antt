use Rattle.std.proofs.Common.{rules, ◌≡◌, length}
use Rattle.std.specs.Prelude.{replicate}
use Rattle.plans_share.proofs.Wholes.{are-wholes}
use Rattle.plans_share.proofs.choosing.wholes.Goals as goal

pub returns-clause-are : goal.returns-clause-are
returns-clause-are c =
    let e : c.in_ok-picks.picks.items ≡ replicate (length c.args.offers.now) 0 = search rules in
    rw e (are-wholes c.args.offers.now)
