use Rattle.std.proofs.Common.{◌≤◌, ℕ}
use Rattle.std.specs.VecDeque.{deque_len}
use Rattle.plans_partitions.specs.Windows.{IsQueue}
use Rattle.plans_partitions.proofs.Queues.{StartsUpTo}
use Rattle.plans_partitions.proofs.queue.leave_before.Given as goal

abbrev pub invariant-loop-queue : goal.invariant-loop-queue
invariant-loop-queue l = (f : ℕ → ℕ) (from next : ℕ) → from ≤ l.place → l.place ≤ next → IsQueue f from next l.initial.queue.items → StartsUpTo f l.place next l.queue.items

abbrev pub decreases-loop-queue : goal.decreases-loop-queue
decreases-loop-queue l = deque_len l.queue
