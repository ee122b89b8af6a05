use Rattle.std.proofs.Common.{arith, ◌∙◌, subst, ◌≡◌, ◌<◌, ◌+◌, ◌-◌, length}
use Rattle.std.specs.Prelude.{slice_index}
use Rattle.std.proofs.lemmas.Bool.{iff_false}
use Rattle.std.proofs.lemmas.Grind.{get_or_default_zero}
use Rattle.plans_guarantee.proofs.Cheapest.{edge_is, edges_next}
use Rattle.plans_guarantee.proofs.Proved.{refused}
use Rattle.plans_guarantee.proofs.checking.edges_hold.Goals as goal

pub returns-then-not-is_edge : goal.returns-then-not-is_edge
returns-then-not-is_edge c =
    let l : c.loop-k.k < length c.args.table.now.boundaries = omega (arith, c.loop-k-test.true, c.requires) in
    refused _ (λ edges. iff_false (edge_is c.args.table.now c.args.factor c.args.pi.now c.in_ok-lows.lows.items c.loop-k.k c.index-low.result.now c.in_ok-left.left c.is_edge.result c.loop-k.invariant.some l c.in_ok-lows.ensures c.index-low.ensures c.in_ok-left.ensures.cheapest c.is_edge.ensures)
    c.if-not-is_edge.true (edges c.loop-k.k c.loop-k-test.true))

pub loop-k-preserved : goal.loop-k-preserved
loop-k-preserved c =
    let l : c.loop-k.k < length c.args.table.now.boundaries = omega (arith, c.loop-k-test.true, c.requires) in
    let here : c.loop-k.k ≡ c.loop-k.k + 1 - 1 = omega arith in
    record {
      some = omega arith;
      edges = edges_next c.args.table.now c.args.factor c.args.pi.now c.loop-k.k c.loop-k.invariant.edges
          ((edge_is c.args.table.now c.args.factor c.args.pi.now c.in_ok-lows.lows.items c.loop-k.k c.index-low.result.now c.in_ok-left.left c.is_edge.result c.loop-k.invariant.some l c.in_ok-lows.ensures c.index-low.ensures c.in_ok-left.ensures.cheapest c.is_edge.ensures).0 c.if-not-is_edge.false);
      costs = c.in_ok-left.ensures.costs;
      next = omega (arith, c.in_ok-left.ensures.next);
      from = subst (λ n. c.cheapest_left.new.window.from ≡ slice_index c.in_ok-lows.lows.items n) here
          (c.in_ok-left.ensures.from ∙ (c.index-low.ensures ∙ get_or_default_zero c.in_ok-lows.lows.items c.loop-k.k c.index-low.result.now (omega (arith, l, c.in_ok-lows.ensures.long))));
    }
