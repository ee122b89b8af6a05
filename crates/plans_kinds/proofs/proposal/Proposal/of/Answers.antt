use Rattle.std.proofs.Common.{ℕ, ◌<◌, ◌^◌, List, length, drop, All, ap, sym, subst, ◌∙◌, arith}
use Rattle.std.specs.Prelude.{slice_index}
use Rattle.plans_partitions.specs.Partitions.{IsFitting}
use Rattle.plans_kinds.specs.Proposals.{paired}
use Rattle.plans_kinds.proofs.Pieces.{fitting_times, paired_pieces}
use Rattle.plans_kinds.proofs.proposal.Proposal.of.Goals as goal

pub segments_of-requires-clause-in_time : goal.segments_of-requires-clause-in_time
segments_of-requires-clause-in_time c =
    let fits = subst (λ (ts : List ℕ). IsFitting ts c.args.partition.now) (sym c.boundaries-times.ensures.value) c.requires.fits in
    subst (λ (cs : List ℕ). All (λ x. x < 2 ^ 40) cs) (sym c.cuts.ensures.value) (fitting_times c.boundaries-times.result.now c.args.partition.now fits c.boundaries-times.ensures.in_time)

pub segments_of-requires-clause-many : goal.segments_of-requires-clause-many
segments_of-requires-clause-many c = omega (arith, ap length c.cuts.ensures.value, c.in_ok-sizes.ensures.many, ap length c.deref.ensures.value)

pub returns-clause-segments : goal.returns-clause-segments
returns-clause-segments c = λ list horizon t.
    c.in_ok-segments.ensures
    ∙ ap (λ (cs : List ℕ). paired (slice_index cs 0) (drop 1 cs) c.deref.result.now) c.cuts.ensures.value
    ∙ ap (λ (ss : List ℕ). paired (slice_index c.args.partition.now 0) (drop 1 c.args.partition.now) ss) (c.deref.ensures.value ∙ c.in_ok-sizes.ensures.value list horizon t)
    ∙ paired_pieces list (slice_index c.args.partition.now 0) (drop 1 c.args.partition.now)
