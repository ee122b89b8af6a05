use Rattle.std.proofs.Common.{rules, tests}
use Rattle.std.proofs.lemmas.List.Sorted.{IsPartitionPoint-from_clause}
use Rattle.lists_tails.proofs.Passed.{is_up_to, partitioned, placed}
use Rattle.lists_tails.proofs.turn.place_of.Goals as goal

pub returns-clause-place : goal.returns-clause-place
returns-clause-place c = λ l. placed c.args.doc.0 c.args.list.now c.partition_point.result c.partition_point.ensures.bound (IsPartitionPoint-from_clause (is_up_to c.args.doc.0) c.args.list.now c.partition_point.result c.partition_point.ensures.partitioned (partitioned c.args.doc.0 c.args.list.now l) (λ a r f k. search (rules, tests)))
