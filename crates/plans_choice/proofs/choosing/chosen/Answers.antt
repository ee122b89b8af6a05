use Rattle.std.proofs.Common.{◌≡◌, refl}
use Rattle.plans_choice.proofs.ChoiceLemmas.{since_first}
use Rattle.plans_choice.proofs.choosing.chosen.Goals as goal
use Rattle.plans_choice.proofs.choosing.chosen.Goals.{in-Uniform, in-Since}

pub returns-clause-chosen : goal.returns-clause-chosen
returns-clause-chosen c =
    elim c.match-kind.branch [
      | in-Uniform w ↦ rw w.in-Uniform.is (c.in_ok-partition.cost, refl, rw (w.since-is, since_first) at c.in_ok-partition.ensures.best)
      | in-Since w ↦
          let since : c.match-kind.since ≡ w.in-Since.at.seconds = cc in
          rw w.in-Since.is (c.in_ok-partition.cost, refl, rw since at c.in_ok-partition.ensures.best)
    ]
