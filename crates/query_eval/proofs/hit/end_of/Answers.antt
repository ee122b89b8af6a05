use Rattle.std.proofs.Common.{arith, sym, ◌∙◌}
use Rattle.query_eval.proofs.HitPlaces.{next_cut, group_is}
use Rattle.query_eval.proofs.hit.end_of.Goals as goal

pub returns-else-eq-clause-next : goal.returns-else-eq-clause-next
returns-else-eq-clause-next c = next_cut c.args.hits.now c.args.start c.loop-end.end _ (record { doc = record { 0 = 0 }; place = 0; tf = 0 }) c.requires.sorted c.requires.first c.loop-end.invariant.0 c.loop-end.invariant.1 c.loop-end.invariant.2 (λ l. sym c.eq.ensures ∙ c.if-eq.false)

pub returns-else-eq-clause-group : goal.returns-else-eq-clause-group
returns-else-eq-clause-group c = group_is c.args.hits.now c.args.start c.loop-end.end _ (record { doc = record { 0 = 0 }; place = 0; tf = 0 }) c.requires.sorted c.requires.first c.loop-end.invariant.0 c.loop-end.invariant.1 c.loop-end.invariant.2 (λ l. sym c.eq.ensures ∙ c.if-eq.false)

pub returns-after-loop-end-clause-group : goal.returns-after-loop-end-clause-group
returns-after-loop-end-clause-group c = group_is c.args.hits.now c.args.start c.loop-end.end _ (record { doc = record { 0 = 0 }; place = 0; tf = 0 }) c.requires.sorted c.requires.first c.loop-end.invariant.0 c.loop-end.invariant.1 c.loop-end.invariant.2 (λ l. absurd (omega (arith, l, c.loop-end-test.false)))
