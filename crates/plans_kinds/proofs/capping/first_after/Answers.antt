use Rattle.std.proofs.Common.{◌≡◌, ◌-◌, ◌<◌, length, rules, arith, true, false, nat_le}
use Rattle.std.specs.List.Sorted.{IsPartitionPoint}
use Rattle.std.proofs.lemmas.Bool.Decides.{nat_tests}
use Rattle.std.proofs.lemmas.List.Sorted.{IsPartitionPoint-from_clause, IsPartitionedBy-leb}
use Rattle.plans_partitions.proofs.Places.{not_falling_by}
use Rattle.plans_kinds.proofs.capping.first_after.Goals as goal

pub returns : goal.returns
returns c =
    let times = c.args.times.now in
    let n = c.partition_point.result in
    let point : IsPartitionPoint (λ y. nat_le y c.args.t ≡ true) (λ y. nat_le y c.args.t ≡ false) times n =
    IsPartitionPoint-from_clause (λ x. nat_le x c.args.t) times n c.partition_point.ensures.partitioned (IsPartitionedBy-leb (λ x. x) times c.args.t (not_falling_by times c.requires.ascending)) (λ a r q k. search rules) in
    let behind : 0 < n = grind (arith, nat_tests, point.1 0 0, c.requires) in
    let inside : n < length times = grind (arith, nat_tests, point.0 (length times - 1) 0, c.requires) in
    record { behind = behind; inside = inside; to = grind (arith, nat_tests, point.0 (n - 1) 0); after = grind (arith, nat_tests, point.1 n 0) }
