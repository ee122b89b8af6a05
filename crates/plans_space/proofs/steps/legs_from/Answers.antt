use Rattle.std.proofs.Common.{rules, subst, ◌≡◌}
use Rattle.plans_space.specs.Steps.{AreLegs}
use Rattle.plans_space.proofs.LegLemmas.{legs_more}
use Rattle.plans_space.proofs.steps.legs_from.Goals as goal

pub loop-j-preserved : goal.loop-j-preserved
loop-j-preserved c = rw (c.in_ok-push.ensures.items, c.in_ok-push-2.ensures.items) (legs_more _ _ _ _ _ _ _ _ _ _ c.loop-j.invariant c.leg-charge.ensures.charge c.leg-charge.ensures.cost c.leg-charge.ensures.small)

pub returns : goal.returns
returns c = let e : c.loop-j.j ≡ c.args.i = search rules in
    subst (λ n. AreLegs c.args.table.now c.args.limits.unit c.args.sums.now c.args.places.now c.args.i n c.loop-j.charges.items c.loop-j.costs.items) e c.loop-j.invariant
