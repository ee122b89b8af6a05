use Rattle.std.proofs.Common.{nat_le, rules, tests}
use Rattle.std.proofs.lemmas.List.Sorted.{IsPartitionPoint-from_clause, IsPartitionedBy-leb}
use Rattle.lists_versions.proofs.lives.up_to.Goals as goal

pub returns-clause-place : goal.returns-clause-place
returns-clause-place c = IsPartitionPoint-from_clause (λ d. nat_le d.at.seconds c.args.t) c.args.changes.now c.partition_point.result c.partition_point.ensures.partitioned (IsPartitionedBy-leb (λ d. d.at.seconds) c.args.changes.now c.args.t c.requires) (λ a r f k. search (rules, tests))
