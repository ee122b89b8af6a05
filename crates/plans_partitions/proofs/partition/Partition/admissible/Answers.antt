use Rattle.plans_partitions.proofs.Tables.{last_is_horizon}
use Rattle.plans_partitions.proofs.partition.Partition.admissible.Goals as goal

pub returns : goal.returns
returns c list horizon t =
    rw (c.cuts.ensures.value, c.requires.fits.last, last_is_horizon list horizon c.args.table.now.boundaries t.boundaries t.early) at (c.are_admissible.ensures list horizon t)
