use Rattle.plans_space.proofs.judging.is_best.Goals as goal

pub returns : goal.returns
returns g c =
    let s = c.in_ok-survey.ensures in
    (s.0, s.1, λ list horizon t. rw c.cuts.ensures.value at (c.in_ok-best.ensures c.args.factor s.0 s.2 list horizon t))
