use Rattle.std.proofs.Common.{rules, arith, sym, subst, ℕ, Option, ◌≡◌}
use Rattle.plans_space.specs.Costs.{along}
use Rattle.plans_space.specs.Steps.{ArePoints, Falls, IsCell, IsLeastBefore}
use Rattle.plans_space.proofs.FrontLemmas.{front_first, front_more}
use Rattle.plans_space.proofs.fronts.points_of.Goals as goal

pub loop-c-init : goal.loop-c-init
loop-c-init c charge cost cells = rw c.new-points.ensures.items (front_first (Falls c.args.stop) (along charge c.args.stop) (along cost c.args.stop))

pub loop-c-preserved : goal.loop-c-preserved
loop-c-preserved c charge cost cells =
    let here : IsCell charge cost c.args.stop c.loop-c.c c.cell_at-here.result = subst (λ (o : Option ℕ). IsCell charge cost c.args.stop c.loop-c.c o) (sym c.cell_at-here.ensures) (cells.each c.args.stop c.loop-c.c (omega arith) c.loop-c-test.true) in
    let so : ArePoints charge cost c.args.stop c.loop-c.c c.loop-c.points.items × IsLeastBefore (Falls c.args.stop) (along charge c.args.stop) (along cost c.args.stop) c.loop-c.c c.loop-c.before = c.loop-c.invariant charge cost cells in
    rw (c.in_ok-points.ensures, c.fall.ensures)
    (front_more (Falls c.args.stop) (along charge c.args.stop) (along cost c.args.stop) c.loop-c.c c.loop-c.points.items so.0 c.loop-c.before c.cell_at-here.result so.1 here)

pub returns : goal.returns
returns c charge cost cells =
    let e : c.loop-c.c ≡ c.args.width = search rules in
    subst (λ n. ArePoints charge cost c.args.stop n c.loop-c.points.items) e (c.loop-c.invariant charge cost cells).0
