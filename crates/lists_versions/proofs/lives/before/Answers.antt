use Rattle.std.proofs.Common.{nat_lt, rules, tests}
use Rattle.std.proofs.lemmas.List.Sorted.{IsPartitionPoint-from_clause, IsPartitionedBy-ltb}
use Rattle.lists_versions.proofs.lives.before.Goals as goal

pub returns-clause-place : goal.returns-clause-place
returns-clause-place c = IsPartitionPoint-from_clause (λ d. nat_lt d.at.seconds c.args.t) c.args.changes.now c.partition_point.result c.partition_point.ensures.partitioned (IsPartitionedBy-ltb (λ d. d.at.seconds) c.args.changes.now c.args.t c.requires) (λ a r f k. search (rules, tests))
