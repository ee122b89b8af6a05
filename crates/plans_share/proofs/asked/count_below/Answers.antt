use Rattle.std.proofs.Common.{rules, nat_lt}
use Rattle.std.proofs.lemmas.List.Sorted.{IsNonDecreasingBy-from_sort, IsPartitionPoint-from_clause, IsPartitionedBy-ltb}
use Rattle.plans_partitions.proofs.Sums.{count_split}
use Rattle.plans_share.proofs.asked.count_below.Goals as goal

pub returns-clause-value : goal.returns-clause-value
returns-clause-value c =
    count_split (λ x. nat_lt x c.args.t) c.args.numbers.now c.partition_point.result c.partition_point.ensures.bound
    (IsPartitionPoint-from_clause (λ x. nat_lt x c.args.t) c.args.numbers.now c.partition_point.result c.partition_point.ensures.partitioned
    (IsPartitionedBy-ltb (λ x. x) c.args.numbers.now c.args.t (IsNonDecreasingBy-from_sort (λ x. x) c.args.numbers.now c.requires)) (λ a r q k. search rules))
