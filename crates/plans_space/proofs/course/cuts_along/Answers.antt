use Rattle.std.proofs.Common.{arith, ap, ◌∙◌, subst, List, [], ◌∷◌, Option, Some, ℕ, ◌+◌, ◌-◌, ◌++◌, length}
use Rattle.std.specs.Prelude.{slice_index}
use Rattle.plans_space.specs.Steps.{leg_charge, leg_cost, through, IsCell, IsBestOf}
use Rattle.plans_space.proofs.CourseLemmas.{course_first, course_done, course_more, way_on}
use Rattle.plans_space.specs.declared.steps.Next.{Next}
use Rattle.std.proofs.lemmas.Grind.{get_or_default_zero}
use Rattle.plans_space.proofs.course.cuts_along.Goals as goal

pub loop-at-init : goal.loop-at-init
loop-at-init c =
    let q : ℕ → ℕ → ℕ = leg_charge c.args.table.now c.args.limits.unit c.args.places.now in
    let k : ℕ → ℕ → ℕ = leg_cost c.args.table.now c.args.sums.now c.args.places.now in
    course_first q k c.args.table.now.boundaries c.args.places.now (length c.args.places.now) (length c.args.places.now - 1) c.args.limits.budget c.args.cost c.push.new.self.items (omega (arith, c.requires.stops.some))
    (c.in_ok-push.ensures.items ∙ ap (λ (l : List ℕ). l ++ (slice_index c.boundaries-times.result.now (slice_index c.args.places.now (length c.args.places.now - 1)) ∷ [])) c.new-cuts.ensures.items
    ∙ ap (λ (t : List ℕ). slice_index t (slice_index c.args.places.now (length c.args.places.now - 1)) ∷ []) c.boundaries-times.ensures.value)
    (subst (λ (o : Option ℕ). IsCell q k (length c.args.places.now - 1) c.args.limits.budget o) c.requires.cost (c.requires.cells.each (length c.args.places.now - 1) c.args.limits.budget (omega (arith, c.requires.stops.some)) (omega arith)))

pub unwrap-next-requires : goal.unwrap-next-requires
unwrap-next-requires c =
    way_on (leg_charge c.args.table.now c.args.limits.unit c.args.places.now) (leg_cost c.args.table.now c.args.sums.now c.args.places.now) (c.args.limits.budget + 1) (length c.args.places.now) c.loop-at.at c.loop-at.left c.args.cells.now
    c.in_ok-legs.legs.charges.items c.in_ok-legs.legs.costs.items (omega (arith, c.loop-at.invariant.inside)) (omega (arith, c.loop-at.invariant.within)) c.requires.cells c.in_ok-legs.ensures.charge c.in_ok-legs.ensures.cost c.loop-at-test.true
    c.loop-at.invariant.path c.loop-at.invariant.is c.best_next.result (subst (λ p. IsBestOf (through c.args.cells.now (c.args.limits.budget + 1) c.in_ok-legs.legs.charges.items c.in_ok-legs.legs.costs.items c.loop-at.left) p c.best_next.result) c.in_ok-legs.ensures.costs_long c.best_next.ensures)

pub loop-at-preserved : goal.loop-at-preserved
loop-at-preserved c =
    let best : IsBestOf (through c.args.cells.now (c.args.limits.budget + 1) c.in_ok-legs.legs.charges.items c.in_ok-legs.legs.costs.items c.loop-at.left) c.loop-at.at (Some c.unwrap-next.result) =
    subst (λ (o : Option Next). IsBestOf (through c.args.cells.now (c.args.limits.budget + 1) c.in_ok-legs.legs.charges.items c.in_ok-legs.legs.costs.items c.loop-at.left) c.loop-at.at o) c.unwrap-next.ensures
    (subst (λ p. IsBestOf (through c.args.cells.now (c.args.limits.budget + 1) c.in_ok-legs.legs.charges.items c.in_ok-legs.legs.costs.items c.loop-at.left) p c.best_next.result) c.in_ok-legs.ensures.costs_long c.best_next.ensures) in
    rw c.in_ok-push-2.ensures.items
    (course_more (leg_charge c.args.table.now c.args.limits.unit c.args.places.now) (leg_cost c.args.table.now c.args.sums.now c.args.places.now) (c.args.limits.budget + 1) (length c.args.places.now) c.loop-at.at c.loop-at.left c.args.cells.now
    c.in_ok-legs.legs.charges.items c.in_ok-legs.legs.costs.items (omega (arith, c.loop-at.invariant.inside)) (omega (arith, c.loop-at.invariant.within)) c.requires.cells c.in_ok-legs.ensures.charge c.in_ok-legs.ensures.cost c.loop-at-test.true
    c.args.table.now.boundaries c.args.places.now (length c.args.places.now) (length c.args.places.now - 1) c.args.limits.budget c.args.cost c.loop-at.cuts.items (slice_index c.boundaries-times.result.now (slice_index c.args.places.now c.unwrap-next.result.to)) c.index.result.now c.unwrap-next.result
    (omega (arith, c.loop-at.invariant.inside)) best (ap (λ (t : List ℕ). slice_index t (slice_index c.args.places.now c.unwrap-next.result.to)) c.boundaries-times.ensures.value)
    (c.index.ensures ∙ get_or_default_zero c.in_ok-legs.legs.charges.items c.unwrap-next.result.to c.index.result.now (omega (arith, c.in_ok-legs.ensures.charges_long, best.0))) c.loop-at.invariant)

pub returns : goal.returns
returns c = course_done (leg_charge c.args.table.now c.args.limits.unit c.args.places.now) (leg_cost c.args.table.now c.args.sums.now c.args.places.now) c.args.table.now.boundaries c.args.places.now (length c.args.places.now) (length c.args.places.now - 1) c.args.limits.budget c.args.cost
    c.loop-at.cuts.items c.loop-at.at c.loop-at.left (omega (arith, c.loop-at-test.false)) c.loop-at.invariant
