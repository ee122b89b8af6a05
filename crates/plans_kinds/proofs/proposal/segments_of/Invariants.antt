use Rattle.std.proofs.Common.{◌≡◌, ◌+◌, ◌++◌, drop, map}
use Rattle.std.specs.Prelude.{slice_index}
use Rattle.plans_kinds.specs.Proposals.{bare_segment, paired}
use Rattle.plans_kinds.proofs.proposal.segments_of.Given as goal

abbrev pub invariant-loop-k : goal.invariant-loop-k
invariant-loop-k l =
    map bare_segment l.segments.items ++ paired (slice_index l.cuts l.k) (drop (l.k + 1) l.cuts) (drop l.k l.sizes) ≡ paired (slice_index l.cuts 0) (drop 1 l.cuts) l.sizes
