use Rattle.std.proofs.Common.{◌≡◌, ◌+◌, slice_index}
use Rattle.plans_partitions.specs.Windows.{IsOver}
use Rattle.plans_partitions.specs.Counts.{alive_in}
use Rattle.plans_partitions.specs.Reaches.{AreReaches}
use Rattle.plans_partitions.proofs.reach.reaches.Given as goal

abbrev pub invariant-loop-k : goal.invariant-loop-k
invariant-loop-k l = record {
  alive : IsOver (alive_in l.table) l.window;
  next : l.window.next ≡ l.k;
  last : slice_index l.lows.items l.k ≡ l.window.from;
  reaches : AreReaches l.table l.factor l.lows.items (l.k + 1);
}
