use Rattle.std.proofs.Common.{rules, tests}
use Rattle.std.proofs.lemmas.List.Sorted.{IsPartitionPoint-from_clause}
use Rattle.lists_tails.specs.Blocks.{starts_up_to}
use Rattle.lists_tails.proofs.Blocked.{blocks-rise, block-found}
use Rattle.lists_tails.proofs.blocks.count_started.Goals as goal

pub returns-clause-placed : goal.returns-clause-placed
returns-clause-placed c = λ f l. block-found c.args.doc.0 c.args.later.now c.partition_point.result c.partition_point.ensures.bound (IsPartitionPoint-from_clause (λ b. starts_up_to c.args.doc.0 b.items) c.args.later.now c.partition_point.result c.partition_point.ensures.partitioned (blocks-rise c.args.doc.0 c.args.later.now f l) (λ a r g k. search (rules, tests)))
