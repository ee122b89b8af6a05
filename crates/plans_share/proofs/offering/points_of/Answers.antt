use Rattle.std.proofs.Common.{ap, subst, ◌∙◌, ℕ, List, slice_index}
use Rattle.plans_space.proofs.FunctionLemmas.{by_function}
use Rattle.plans_space.specs.Plans.{IsFront}
use Rattle.plans_share.specs.Asked.{count_in}
use Rattle.plans_share.proofs.offering.points_of.Goals as goal

pub returns : goal.returns
returns c = λ list horizon t.
    let times = c.args.table.now.boundaries in
    let front = c.in_ok-points.ensures in
    let same = by_function _ (λ a b. count_in a b c.args.times.now) times front.0 (λ span n answered. answered.1.0 ∙ ap (λ load. count_in span.from span.to load.0.now) c.new-load.ensures) front.1 in
    subst (λ (ws : List ℕ). IsFront list times ws c.args.factor (slice_index times 0) horizon c.in_ok-points.points.items) same (front.2 list horizon t)
