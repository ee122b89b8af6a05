use Rattle.std.proofs.Common.{◌≡◌, ◌≤◌, ℕ}
use Rattle.std.specs.VecDeque.{deque_len, deque_capacity}
use Rattle.plans_partitions.specs.Windows.{IsQueue, IsFront}
use Rattle.plans_partitions.proofs.queue.leave_from.Given as goal

abbrev pub invariant-loop-queue : goal.invariant-loop-queue
invariant-loop-queue l = record {
  front : (f : ℕ → ℕ) (from next : ℕ) → IsQueue f from next l.initial.queue.items → IsFront f l.value from next l.queue.items;
  length : deque_len l.queue ≤ deque_len l.initial.queue;
  capacity : deque_capacity l.queue ≡ deque_capacity l.initial.queue;
}

abbrev pub decreases-loop-queue : goal.decreases-loop-queue
decreases-loop-queue l = deque_len l.queue
