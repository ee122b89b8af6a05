use Rattle.std.proofs.Common.{arith, ◌<◌, length}
use Rattle.std.specs.Prelude.{slice_index}
use Rattle.plans_space.proofs.StopLemmas.{stop_falls, stop_inside}
use Rattle.plans_space.proofs.LegLemmas.{leg_fits}
use Rattle.plans_space.proofs.steps.leg.Goals as goal

pub overflow_sub-weight : goal.overflow_sub-weight
overflow_sub-weight c =
    let l : slice_index c.args.places.now c.args.j < length c.args.table.now.boundaries = stop_inside (length c.args.table.now.boundaries) c.args.places.now c.requires.some c.requires.stops c.args.j (omega (arith, c.requires.lower, c.requires.inside)) in
    c.requires.rising (slice_index c.args.places.now c.args.i) (slice_index c.args.places.now c.args.j) (omega (arith, stop_falls (length c.args.table.now.boundaries) c.args.places.now c.requires.some c.requires.stops c.args.j c.args.i c.requires.lower c.requires.inside)) (omega (arith, l, c.requires.long))

pub returns-clause-small : goal.returns-clause-small
returns-clause-small c =
    let l : slice_index c.args.places.now c.args.j < length c.args.table.now.boundaries = stop_inside (length c.args.table.now.boundaries) c.args.places.now c.requires.some c.requires.stops c.args.j (omega (arith, c.requires.lower, c.requires.inside)) in
    leg_fits (slice_index c.args.sums.now (slice_index c.args.places.now c.args.j)) (slice_index c.args.sums.now (slice_index c.args.places.now c.args.i)) c.from.result (c.requires.small (slice_index c.args.places.now c.args.j) 0 (omega (arith, l, c.requires.long))) (omega (arith, c.from.ensures, c.size-size.ensures.bound))

pub overflow_mul-result : goal.overflow_mul-result
overflow_mul-result c = omega (arith, returns-clause-small c)
