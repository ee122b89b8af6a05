use Rattle.plans_partitions.specs.Counts.{alive_in}
use Rattle.plans_partitions.proofs.Reaching.{reached_iff}
use Rattle.plans_partitions.proofs.reach.is_reached.Goals as goal

pub returns : goal.returns
returns c =
    reached_iff c.args.table.now c.args.factor c.args.window.now.from c.args.k c.least_place.result c.is_within.result (rw c.requires.next at (c.least_place.ensures (alive_in c.args.table.now) c.requires.alive))
    (rw (c.size.ensures.value, c.from.ensures, c.alive-least.ensures.value) at c.is_within.ensures)
