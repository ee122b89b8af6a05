use Rattle.std.proofs.Common.{ap, ◌∙◌}
use Rattle.plans_kinds.specs.Plans.{each_second_since}
use Rattle.plans_choice.proofs.ChoiceLemmas.{best_by_function}
use Rattle.plans_choice.proofs.loads.best_since.Goals as goal

pub returns-clause-best : goal.returns-clause-best
returns-clause-best c =
    let best = c.in_ok-partition.ensures.best in
    best_by_function _ (each_second_since c.args.since) c.args.table.now c.args.factor c.in_ok-partition.partition best.0 c.in_ok-partition.cost
    (λ span n answered. answered.1.0 ∙ ap (λ load. each_second_since load.0 span.from span.to) c.new-load.ensures) best.1 best.2
