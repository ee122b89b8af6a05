use Rattle.std.proofs.Common.{◌≡◌, ◌-◌, ◌<◌, ◌≤◌}
use Rattle.plans_partitions.specs.Windows.{IsOver}
use Rattle.plans_partitions.specs.Counts.{alive_in}
use Rattle.plans_partitions.specs.Reaches.{NoneBefore}
use Rattle.plans_partitions.proofs.reach.reach_to.Given as goal

abbrev pub invariant-loop-factor : goal.invariant-loop-factor
invariant-loop-factor l = record {
  alive : IsOver (alive_in l.table) l.window;
  next : l.window.next ≡ l.k;
  on : l.initial.window.from ≤ l.window.from;
  before : l.window.from < l.k;
  none : NoneBefore l.table l.factor l.k l.window.from;
}

abbrev pub decreases-loop-factor : goal.decreases-loop-factor
decreases-loop-factor l = l.k - l.window.from
