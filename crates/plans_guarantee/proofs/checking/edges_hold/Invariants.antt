use Rattle.std.proofs.Common.{◌≡◌, ◌-◌, ◌≤◌}
use Rattle.std.specs.Prelude.{slice_index}
use Rattle.plans_partitions.specs.Windows.{IsOver}
use Rattle.plans_guarantee.specs.Edges.{EdgesBelow}
use Rattle.plans_guarantee.specs.Lefts.{cost_to_end}
use Rattle.plans_guarantee.proofs.checking.edges_hold.Given as goal

abbrev pub invariant-loop-k : goal.invariant-loop-k
invariant-loop-k l = record {
  some : 1 ≤ l.k;
  edges : EdgesBelow l.table l.fn.factor l.pi l.k;
  costs : IsOver (cost_to_end l.table l.pi) l.window;
  next : l.window.next ≡ l.k - 1;
  from : l.window.from ≡ slice_index l.lows.items (l.k - 1);
}
