use Rattle.std.proofs.Common.{nat_le, rules, tests}
use Rattle.std.proofs.lemmas.List.Sorted.{IsPartitionPoint-from_clause, IsPartitionedBy-leb}
use Rattle.query_eval.proofs.facts.behind.Goals as goal

pub returns-clause-place : goal.returns-clause-place
returns-clause-place c = IsPartitionPoint-from_clause (λ f. nat_le f.doc.0 c.args.doc.0) c.args.facts.now c.partition_point.result c.partition_point.ensures.partitioned (IsPartitionedBy-leb (λ f. f.doc.0) c.args.facts.now c.args.doc.0 c.requires) (λ a r f k. search (rules, tests))
