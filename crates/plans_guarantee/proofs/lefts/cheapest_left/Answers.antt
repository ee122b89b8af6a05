use Rattle.std.proofs.Common.{arith, ap, sym, ◌∙◌, subst, ◌≡◌, ◌+◌, ◌-◌, length, List, ℕ}
use Rattle.plans_partitions.specs.Windows.{IsLeastIn}
use Rattle.plans_partitions.specs.Counts.{size_between}
use Rattle.plans_guarantee.specs.Lefts.{cost_to_end}
use Rattle.plans_guarantee.proofs.Cheapest.{cheapest_is}
use Rattle.plans_guarantee.proofs.lefts.cheapest_left.Goals as goal

pub returns-clause-costs : goal.returns-clause-costs
returns-clause-costs c = c.start_at.ensures.over (cost_to_end c.args.table.now c.args.numbers.now) (c.in_ok-push.ensures.over (cost_to_end c.args.table.now c.args.numbers.now) (here ∙ ap (cost_to_end c.args.table.now c.args.numbers.now) (sym c.requires.next)) c.requires.costs)
  where
    size : c.size-size.result ≡ size_between c.args.table.now (c.args.k - 1) (length c.args.table.now.boundaries - 1)
    size = c.size-size.ensures.value ∙ ap (λ (l : List ℕ). size_between c.args.table.now (c.args.k - 1) (length l - 1)) c.boundaries.ensures.value

    here : c.from.result + c.from-2.result ≡ cost_to_end c.args.table.now c.args.numbers.now (c.args.k - 1)
    here = omega (arith, c.from.ensures, c.from-2.ensures, size)

pub returns-clause-cheapest : goal.returns-clause-cheapest
returns-clause-cheapest c =
    cheapest_is c.args.table.now c.args.numbers.now c.args.low c.args.k c.least_place.result c.boundaries.ensures.ordered c.requires.inside
    (subst (λ n. IsLeastIn (cost_to_end c.args.table.now c.args.numbers.now) c.args.low n c.least_place.result) end
    (subst (λ n. IsLeastIn (cost_to_end c.args.table.now c.args.numbers.now) n c.start_at.new.self.next c.least_place.result) c.start_at.ensures.from (c.least_place.ensures (cost_to_end c.args.table.now c.args.numbers.now) (returns-clause-costs c))))
  where
    end : c.start_at.new.self.next ≡ c.args.k
    end = omega (arith, c.start_at.ensures.next, c.in_ok-push.ensures.next, c.requires.next, c.requires.some)
