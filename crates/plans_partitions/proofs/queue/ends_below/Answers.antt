use Rattle.std.proofs.Common.{refl}
use Rattle.plans_partitions.proofs.Queues.{ends_iff}
use Rattle.plans_partitions.proofs.queue.ends_below.Goals as goal

pub returns-in-Some : goal.returns-in-Some
returns-in-Some c = ends_iff c.args.value c.args.queue.now.items _ c.in-Some.field-0.now c.args.queue.now.ok.0 (c.in-Some.ensures.variant.0 refl) c.in-Some.ensures.lookup
