use Rattle.std.proofs.Common.{◌≡◌, ◌+◌, arith, subst, inl, inr}
use Rattle.query_top.specs.Firsts.{AreFirst, below}
use Rattle.query_top.proofs.top.offer_all.Goals as goal

pub loop-k-preserved : goal.loop-k-preserved
loop-k-preserved c = record {
  few = c.in_ok-offer.ensures.few;
  first = λ of h f.
      let e : (c.args.from + c.loop-k.k) + 1 ≡ c.args.from + (c.loop-k.k + 1) = omega arith in
      subst (λ n. AreFirst (below n of) c.args.count c.offer.new.rows.items) e
      (c.in_ok-offer.ensures.first of (h c.loop-k.k c.loop-k-test.true) (c.loop-k.invariant.first of h f));
  shown = λ x h. elim (c.in_ok-offer.ensures.shown x h) [
    | inl k ↦ elim (c.loop-k.invariant.shown x k) [ inl m ↦ inl m | inr m ↦ inr (m.0, omega (arith, m.1)) ]
    | inr k ↦ inr (omega (arith, k), omega (arith, k))
  ];
}
