use Rattle.plans_partitions.proofs.partition.Partition.whole_space.Goals as goal

pub returns-clause-value : goal.returns-clause-value
returns-clause-value c list horizon t = rw c.cuts.ensures.value at (c.space_between.ensures.value list horizon t)
