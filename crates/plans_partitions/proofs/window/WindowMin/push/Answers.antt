use Rattle.std.proofs.Common.{arith, refl, subst, List, ℕ, ◌≡◌}
use Rattle.plans_partitions.specs.Windows.{Window, IsQueue, IsFront, IsOver}
use Rattle.plans_partitions.proofs.Queues.{pushed, window_more}
use Rattle.plans_partitions.proofs.window.WindowMin.push.Goals as goal

pub invariant_of-self-2 : goal.invariant_of-self-2
invariant_of-self-2 c =
    window_more (record { next = c.self.inside.next; from = c.self.inside.from; queue = c.self.inside.queue.items }) (record { next = c.in-Some.next; from = c.self.inside.from; queue = c.push_back.new.self.items }) c.args.value
    (λ f. pushed f c.args.value (record { next = c.self.inside.next; from = c.self.inside.from; queue = c.self.inside.queue.items }) (record { next = c.in-Some.next; from = c.self.inside.from; queue = c.push_back.new.self.items }) c.leave_from.new.queue.items
    (omega arith) refl c.in_ok-push_back.ensures.items c.leave_from.ensures.less
    (subst (λ (l : List (ℕ × ℕ)). IsQueue f c.self.inside.from c.self.inside.next l → IsFront f c.args.value c.self.inside.from c.self.inside.next c.leave_from.new.queue.items) c.in_ok-reserve.ensures.items (c.leave_from.ensures.front f c.self.inside.from c.self.inside.next)))
    c.self.invariant

pub returns-clause-over : goal.returns-clause-over
returns-clause-over c f =
    subst (λ (w : Window). c.args.value ≡ f w.next → IsOver f w → IsOver f (record { next = c.in-Some.next; from = c.self.inside.from; queue = c.push_back.new.self.items })) c.self.view_is
    (pushed f c.args.value (record { next = c.self.inside.next; from = c.self.inside.from; queue = c.self.inside.queue.items }) (record { next = c.in-Some.next; from = c.self.inside.from; queue = c.push_back.new.self.items }) c.leave_from.new.queue.items
    (omega arith) refl c.in_ok-push_back.ensures.items c.leave_from.ensures.less
    (subst (λ (l : List (ℕ × ℕ)). IsQueue f c.self.inside.from c.self.inside.next l → IsFront f c.args.value c.self.inside.from c.self.inside.next c.leave_from.new.queue.items) c.in_ok-reserve.ensures.items (c.leave_from.ensures.front f c.self.inside.from c.self.inside.next)))
