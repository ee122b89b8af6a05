use Rattle.std.proofs.Common.{arith, ◌≡◌, ◌+◌, ◌-◌}
use Rattle.plans_partitions.proofs.Tables.{size_is}
use Rattle.plans_partitions.proofs.table.Table.size.Goals as goal

pub returns-clause-count : goal.returns-clause-count
returns-clause-count c list horizon is = let e : c.args.k - 1 + 1 ≡ c.args.k = omega arith in rw (c.postings_in.ensures.value, e) (size_is list horizon c.args.self.now is c.args.j c.args.k c.requires.order c.requires.inside)
