use Rattle.plans_partitions.proofs.partition.Partition.sizes.Goals as goal

pub returns : goal.returns
returns c = record { many = rw c.cuts.ensures.value at c.sizes_between.ensures.many; value = rw c.cuts.ensures.value at c.sizes_between.ensures.value }
