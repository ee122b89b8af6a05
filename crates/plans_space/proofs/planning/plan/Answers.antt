use Rattle.plans_space.proofs.CapLemmas.{capped}
use Rattle.plans_space.proofs.planning.plan.Goals as goal

pub returns-clause-capped : goal.returns-clause-capped
returns-clause-capped g c list horizon t =
    capped list c.args.table.now.boundaries c.args.factor _ horizon _ (c.in_ok-partition.ensures.best c.args.factor c.in_ok-survey.ensures.0 c.in_ok-survey.ensures.2 list horizon t).0.eligible

pub returns-clause-best : goal.returns-clause-best
returns-clause-best g c = (c.in_ok-survey.ensures.0, c.in_ok-survey.ensures.1, c.in_ok-partition.ensures.best c.args.factor c.in_ok-survey.ensures.0 c.in_ok-survey.ensures.2)
