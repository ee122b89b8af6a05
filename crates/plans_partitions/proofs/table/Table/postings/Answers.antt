use Rattle.std.proofs.Common.{arith}
use Rattle.std.proofs.lemmas.Grind.{common_steps}
use Rattle.plans_partitions.proofs.Tables.{postings_is}
use Rattle.plans_partitions.proofs.table.Table.postings.Goals as goal

pub returns-clause-count : goal.returns-clause-count
returns-clause-count c list horizon is = grind (arith, common_steps, postings_is list horizon c.args.self.now is)
