use Rattle.plans_space.proofs.judging.+walk.Given as goal

abbrev pub decreases-walk : goal.decreases-walk
decreases-walk l = l.at
