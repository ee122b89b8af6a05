use Rattle.std.proofs.Common.{nat_le}
use Rattle.base_types.specs.declared.posting.Posting.{Posting}
use Rattle.plans_partitions.proofs.Sums.{counted}
use Rattle.plans_partitions.proofs.sorting.ended_at.Goals as goal

pub returns : goal.returns
returns c list made = rw (counted nat_le (λ (p : Posting). p.span.to) list _ _ _ c.args.times.now made c.sorted.ensures.same c.deref.ensures.value) at c.counts_to.ensures
