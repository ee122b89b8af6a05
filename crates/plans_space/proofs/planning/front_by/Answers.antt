use Rattle.std.proofs.Common.{rules, arith, sym, subst, List, Option, ℕ, ◌≡◌, ◌+◌, ◌-◌, length}
use Rattle.plans_space.specs.Steps.{ArePoints, AreCells, leg_charge, leg_cost}
use Rattle.plans_space.proofs.BestLemmas.{front_is}
use Rattle.plans_space.proofs.planning.front_by.Goals as goal

pub returns : goal.returns
returns c factor weights s list horizon t =
    let q : ℕ → ℕ → ℕ = leg_charge c.args.table.now c.args.survey.now.limits.unit c.args.survey.now.places.items in
    let k : ℕ → ℕ → ℕ = leg_cost c.args.table.now c.args.survey.now.sums.items c.args.survey.now.places.items in
    let d : c.len.result ≡ length c.args.survey.now.places.items = search rules in
    let e : length c.args.survey.now.places.items ≡ c.len.result - 1 + 1 = omega (arith, s.stops.some, d) in
    front_is list horizon c.args.table.now factor c.args.survey.now.limits.unit c.args.survey.now.limits.budget weights c.args.survey.now.sums.items c.args.survey.now.places.items c.args.survey.now.cells.items t s c.in_ok-points.points.items
    (subst (λ n. ArePoints q k (n - 1) (c.args.survey.now.limits.budget + 1) c.in_ok-points.points.items) d
    (c.in_ok-points.ensures q k (subst (λ n. AreCells q k (c.args.survey.now.limits.budget + 1) c.deref.result.now n) e (subst (λ (x : List (Option ℕ)). AreCells q k (c.args.survey.now.limits.budget + 1) x (length c.args.survey.now.places.items)) (sym c.deref.ensures.value) s.cells_are))))
