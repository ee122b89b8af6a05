use Rattle.std.proofs.Common.{arith, ◌≡◌, ◌+◌, ◌<◌, ap, length, Contains, slice_index}
use Rattle.std.specs.List.Sorted.{IsStrictlyIncreasing}
use Rattle.std.proofs.lemmas.List.Elements.{All-get_or}
use Rattle.plans_partitions.proofs.Places.{place_below, rises}
use Rattle.plans_partitions.proofs.Cuts.{found_there}
use Rattle.plans_partitions.proofs.partition.next_place.Goals as goal

pub first_from-requires-clause-before : goal.first_from-requires-clause-before
first_from-requires-clause-before c =
    omega (arith, ap (λ l. slice_index l c.args.at) c.boundaries.ensures.value, rises c.args.cuts.now c.requires.ascending c.args.k (c.args.k + 1) (omega arith) c.requires.more, c.requires.here)

pub returns : goal.returns
returns c =
    let up : IsStrictlyIncreasing c.args.table.now.boundaries = rw c.boundaries.ensures.value at c.boundaries.ensures.ascending in
    let there : (c.first_from.result < length c.args.table.now.boundaries) × (slice_index c.args.table.now.boundaries c.first_from.result ≡ slice_index c.args.cuts.now (c.args.k + 1)) =
    found_there c.args.table.now.boundaries _ c.first_from.result (rw c.boundaries.ensures.value at c.first_from.ensures.below) (rw c.boundaries.ensures.value at c.first_from.ensures.above) up
    (All-get_or (Contains c.args.table.now.boundaries) c.args.cuts.now (c.args.k + 1) 0 c.requires.more c.requires.among) in
    let later : slice_index c.args.cuts.now c.args.k < slice_index c.args.cuts.now (c.args.k + 1) = rises c.args.cuts.now c.requires.ascending c.args.k (c.args.k + 1) (omega arith) c.requires.more in
    record { after = place_below c.args.table.now.boundaries up c.args.at c.first_from.result c.requires.inside (omega (arith, there.1, c.requires.here)); inside = there.0; there = there.1 }
