use Rattle.std.proofs.Common.{rules, tests}
use Rattle.std.proofs.lemmas.List.Sorted.{IsPartitionPoint-from_clause}
use Rattle.query_eval.specs.Hits.{is_up_to}
use Rattle.query_eval.proofs.HitPlaces.{up_to_first}
use Rattle.query_eval.proofs.hit.behind.Goals as goal

pub returns-clause-place : goal.returns-clause-place
returns-clause-place c = λ up. IsPartitionPoint-from_clause (is_up_to c.args.doc.0) c.args.hits.now c.partition_point.result c.partition_point.ensures.partitioned (up_to_first c.args.doc.0 c.args.hits.now up) (λ a r f k. search (rules, tests))
