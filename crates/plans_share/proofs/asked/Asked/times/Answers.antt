use Rattle.plans_share.proofs.Counts.{in-order}
use Rattle.plans_share.proofs.asked.Asked.times.Goals as goal

pub returns-clause-counts : goal.returns-clause-counts
returns-clause-counts c = λ a b. in-order c.args.word.now a b c.args.self.now c.in_ok-seconds.seconds.items c.sorted.result.items c.in_ok-seconds.ensures.seconds c.sorted.ensures.same
