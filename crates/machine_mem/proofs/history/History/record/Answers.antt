use Rattle.std.proofs.Common.{refl}
use Rattle.machine_mem.proofs.RecallLemmas.{plays_more, past_more, before_more, numbered_more}
use Rattle.machine_mem.proofs.history.History.record.Goals as goal

pub invariant_of-self-2-clause-plays : goal.invariant_of-self-2-clause-plays
invariant_of-self-2-clause-plays c = plays_more _ _ _ _ _ _ c.args.self.now.plays c.in_ok-push.ensures.items c.in_ok-next.ensures

pub invariant_of-self-2-clause-numbered : goal.invariant_of-self-2-clause-numbered
invariant_of-self-2-clause-numbered c = numbered_more _ _ _ _ c.in_ok-push.ensures.items refl c.args.self.now.numbered

pub returns-clause-past : goal.returns-clause-past
returns-clause-past c = past_more _ _ _ _ _ c.args.self.now.plays c.in_ok-push.ensures.items

pub returns-clause-before : goal.returns-clause-before
returns-clause-before c = λ n low. before_more _ _ _ _ n c.in_ok-push.ensures.items low
