use Rattle.plans_partitions.proofs.Tables.{alive_in_is}
use Rattle.plans_partitions.proofs.table.Table.alive.Goals as goal

pub returns-clause-count : goal.returns-clause-count
returns-clause-count c list horizon t is le lt = rw c.postings_in.ensures.value (alive_in_is list horizon c.args.self.now is c.args.k t c.requires.inside le lt)
