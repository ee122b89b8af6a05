use Rattle.std.proofs.Common.{arith}
use Rattle.plans_partitions.proofs.Places.{rises, not_falling}
use Rattle.plans_partitions.proofs.sorting.first_from.Goals as goal

pub loop-place-init : goal.loop-place-init
loop-place-init c = record { inside = omega arith; below = λ k l. omega (arith, rises c.args.numbers.now c.requires.ascending k c.args.at l c.requires.on, c.requires.before) }

pub returns-else-numbers-place-clause-above : goal.returns-else-numbers-place-clause-above
returns-else-numbers-place-clause-above c k le l = omega (arith, not_falling c.args.numbers.now c.requires.ascending c.loop-place.place k le l)
