use Rattle.std.proofs.Common.{◌≡◌, ◌-◌, rules, arith, true, false, nat_le}
use Rattle.std.specs.List.Sorted.{IsPartitionPoint}
use Rattle.std.proofs.lemmas.Bool.Decides.{nat_tests}
use Rattle.std.proofs.lemmas.List.Sorted.{IsPartitionPoint-from_clause, IsPartitionedBy-leb}
use Rattle.pages_sublists.proofs.PagedLemmas.{starts_rise}
use Rattle.pages_sublists.proofs.starts.start_at.Goals as goal

pub returns-in_default-clause-before : goal.returns-in_default-clause-before
returns-in_default-clause-before c =
    let starts = c.args.starts.now in
    let n = c.partition_point.result in
    let point : IsPartitionPoint (λ y. nat_le y c.args.page ≡ true) (λ y. nat_le y c.args.page ≡ false) starts n =
    IsPartitionPoint-from_clause (λ x. nat_le x c.args.page) starts n c.partition_point.ensures.partitioned (IsPartitionedBy-leb (λ x. x) starts c.args.page (starts_rise starts c.requires.starts.0 c.requires.starts.1)) (λ a r q k. search rules) in
    grind (arith, nat_tests, point.0 (n - 1) 0, c.in_default)
