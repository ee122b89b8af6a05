use Rattle.std.proofs.Common.{arith, refl}
use Rattle.std.proofs.lemmas.Bool.{iff_false}
use Rattle.plans_partitions.proofs.Queues.{front_whole, last_gone, one_less}
use Rattle.plans_partitions.proofs.queue.leave_from.Goals as goal

pub loop-queue-init : goal.loop-queue-init
loop-queue-init c = record {
  front = λ f from next q. front_whole f c.args.value from next c.args.queue.now.items q;
  length = omega arith;
  capacity = refl;
}

pub loop-queue-preserved : goal.loop-queue-preserved
loop-queue-preserved c = record {
  front = λ f from next q. last_gone f c.args.value from next c.loop-queue.queue.items c.pop_back.new.self.items c.pop_back.result c.pop_back.ensures.items (iff_false c.ends_below.ensures c.loop-queue-test.true) (c.loop-queue.invariant.front f from next q);
  length = omega (arith, c.loop-queue.invariant.length, one_less _ _ c.pop_back.result c.pop_back.ensures.items, c.pop_back.new.self.ok.0, c.loop-queue.queue.ok.0);
  capacity = omega (arith, c.pop_back.ensures.capacity, c.loop-queue.invariant.capacity);
}
