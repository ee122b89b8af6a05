use Rattle.std.proofs.Common.{length, ap, arith}
use Rattle.lists_index.proofs.Measured.{longer, once, occur, measured}
use Rattle.lists_index.proofs.measure.by_number.Goals as goal

pub number_counts-requires : goal.number_counts-requires
number_counts-requires c = omega (arith, c.if-from-len-gt-MOST_WORDS.false, c.len.ensures, ap length c.deref.ensures.value)

pub weights_by-requires-clause-once : goal.weights_by-requires-clause-once
weights_by-requires-clause-once c =
    let (all, held, is, parted) = c.requires in
    once parted is (rw c.deref.ensures.value at c.in_ok-counts.ensures)

pub weights_by-requires-clause-occur : goal.weights_by-requires-clause-occur
weights_by-requires-clause-occur c =
    let (all, held, is, parted) = c.requires in
    occur parted is (rw c.deref.ensures.value at c.in_ok-counts.ensures) (omega (arith, longer parted, is, c.if-from-len-gt-MOST_WORDS.false, c.len.ensures))

pub returns-clause-measured : goal.returns-clause-measured
returns-clause-measured c = λ all held is each parted.
    measured parted is (rw c.deref.ensures.value at c.in_ok-counts.ensures) c.in_ok-weights.weights each c.in_ok-weights.ensures
