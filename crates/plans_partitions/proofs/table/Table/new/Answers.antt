use Rattle.plans_partitions.proofs.Tables.{counts_ordered}
use Rattle.plans_partitions.proofs.table.Table.new.Goals as goal

pub returns : goal.returns
returns c = record {
  boundaries = record { ascending = c.in_ok-boundaries.ensures.ascending; each = rw (c.seconds.ensures.value, c.deref.ensures.value, c.deref-2.ensures.value, c.in_ok-starts.ensures, c.in_ok-stops.ensures) at c.in_ok-boundaries.ensures.each };
  begun = rw c.deref-3.ensures.value at (c.in_ok-begun.ensures c.args.list.now c.in_ok-starts.ensures);
  ended = rw c.deref-4.ensures.value at (c.in_ok-ended.ensures c.args.list.now c.in_ok-stops.ensures);
  early = c.requires.early;
}

pub invariant_of-result : goal.invariant_of-result
invariant_of-result c = counts_ordered c.args.list.now c.args.horizon.seconds _ (returns c) c.requires.some c.requires.few c.args.horizon.before_now
