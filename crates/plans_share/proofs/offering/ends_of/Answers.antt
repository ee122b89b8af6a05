use Rattle.std.proofs.Common.{arith, length, ◌-◌}
use Rattle.plans_partitions.proofs.Places.{rises}
use Rattle.plans_share.proofs.offering.ends_of.Goals as goal

pub invariant_of-result : goal.invariant_of-result
invariant_of-result c =
    let last = length c.args.boundaries.now - 1 in
    record {
      ordered = rises c.args.boundaries.now c.requires.ascending 0 last (omega (arith, c.requires.many)) (omega (arith, c.requires.many));
      in_time = omega (arith, c.requires.in_time last 0 (omega (arith, c.requires.many)));
    }
