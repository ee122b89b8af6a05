use Rattle.std.proofs.Common.{nat_lt}
use Rattle.base_types.specs.declared.posting.Posting.{Posting}
use Rattle.plans_partitions.proofs.Sums.{counted}
use Rattle.plans_partitions.proofs.sorting.begun_at.Goals as goal

pub returns : goal.returns
returns c list made = rw (counted nat_lt (λ (p : Posting). p.span.from) list _ _ _ c.args.times.now made c.sorted.ensures.same c.deref.ensures.value) at c.counts_below.ensures
