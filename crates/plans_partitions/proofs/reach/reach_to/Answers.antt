use Rattle.std.proofs.Common.{arith, sym, subst, ◌≡◌, ◌+◌}
use Rattle.std.proofs.lemmas.Bool.{iff_false}
use Rattle.plans_partitions.specs.Counts.{AdmissibleBetween, alive_in}
use Rattle.plans_partitions.specs.Reaches.{NoneBefore}
use Rattle.plans_partitions.proofs.Reaching.{reach_is, none_next, not_last}
use Rattle.plans_partitions.proofs.reach.reach_to.Goals as goal

pub loop-factor-preserved : goal.loop-factor-preserved
loop-factor-preserved c =
    let bad : AdmissibleBetween c.args.table.now c.args.factor c.loop-factor.window.from c.args.k → ⊥ = iff_false c.is_reached.ensures c.loop-factor-test.true in
    let next : c.start_at.new.self.from ≡ c.loop-factor.window.from + 1 = omega (arith, c.start_at.ensures.from, c.from-next.ensures) in
    record {
      alive = c.start_at.ensures.over (alive_in c.args.table.now) c.loop-factor.invariant.alive;
      next = omega (arith, c.start_at.ensures.next, c.loop-factor.invariant.next);
      on = omega (arith, c.loop-factor.invariant.on);
      before = omega (arith, not_last c.args.table.now c.args.factor c.args.k c.loop-factor.window.from c.loop-factor.invariant.before bad);
      none = subst (λ n. NoneBefore c.args.table.now c.args.factor c.args.k n) (sym next) (none_next c.args.table.now c.args.factor c.args.k c.loop-factor.window.from bad c.loop-factor.invariant.none);
    }

pub returns-clause-reach : goal.returns-clause-reach
returns-clause-reach c = reach_is c.args.table.now c.args.factor c.args.k c.loop-factor.window.from c.requires.ordered c.requires.inside c.loop-factor.invariant.before (c.is_reached.ensures.0 c.loop-factor-test.false) c.loop-factor.invariant.none
