use Rattle.std.proofs.Common.{◌≡◌, ◌-◌, ◌<◌, ◌≤◌, ℕ, length, take}
use Rattle.std.specs.Prelude.{slice_index}
use Rattle.plans_partitions.specs.Windows.{IsOver}
use Rattle.plans_guarantee.specs.Lefts.{cost_to_end}
use Rattle.plans_guarantee.specs.Steps.{AreSettled}
use Rattle.plans_guarantee.proofs.steps.settle.Given as goal

abbrev pub invariant-loop-k : goal.invariant-loop-k
invariant-loop-k l = record {
  some : 0 < l.k;
  long : length l.lefts.items ≡ length l.initial.lefts.items;
  lows : (m : ℕ) → l.k ≤ m → slice_index l.lefts.items m ≡ slice_index l.initial.lefts.items m;
  settled : AreSettled l.table l.fn.factor l.pi.items (take l.k l.lefts.items) l.k;
  costs : IsOver (cost_to_end l.table l.pi.items) l.window;
  next : l.window.next ≡ l.k - 1;
  from : l.window.from ≡ slice_index l.initial.lefts.items (l.k - 1);
}
