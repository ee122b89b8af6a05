use Rattle.std.proofs.Common.{List, [], ◌∷◌, take, arith, sym, subst, All}
use Rattle.base_types.specs.declared.extent.Extent.{Extent}
use Rattle.pages_area.specs.Taken.{HasTaken}
use Rattle.pages_area.specs.Live.{IsInside, IsNext}
use Rattle.std.proofs.lemmas.List.Sorted.{IsPermutation-append_comm}
use Rattle.pages_area.proofs.OrderLemmas.{taken_permuted}
use Rattle.pages_area.proofs.TakenLemmas.{next_extent, inside_more}
use Rattle.pages_area.proofs.pages.Pages.from_live.Goals as goal

pub returns-then-end-reach-clause-refused : goal.returns-then-end-reach-clause-refused
returns-then-end-reach-clause-refused c =
    let next : IsNext c.args.live.now c.args.reach c.loop-index.index c.index-live-index.result = record {
      within = c.loop-index-test.true;
      is = c.index-live-index.is;
      pass = (c.loop-index.invariant.inside, c.loop-index.invariant.taken.apart);
    } in
    (c.index-live-index.result, (next, omega (arith, c.if-end-reach.true, c.end.ensures)))

pub returns-then-not-branch-clause-refused : goal.returns-then-not-branch-clause-refused
returns-then-not-branch-clause-refused c =
    let next : IsNext c.args.live.now c.args.reach c.loop-index.index c.index-live-index.result = record {
      within = c.loop-index-test.true;
      is = c.index-live-index.is;
      pass = (c.loop-index.invariant.inside, c.loop-index.invariant.taken.apart);
    } in
    (c.index-live-index.result, (next, (omega (arith, c.if-end-reach.false, c.end.ensures), c.in_ok-claim.ensures.no c.if-not-branch.true (take c.loop-index.index c.args.live.now) c.loop-index.invariant.taken)))

pub loop-index-preserved : goal.loop-index-preserved
loop-index-preserved c =
    let live = c.args.live.now in
    let next = next_extent live c.loop-index.index c.index-live-index.result c.loop-index-test.true c.index-live-index.is in
    record {
      taken = subst (λ (xs : List Extent). HasTaken c.claim.new.self xs) (sym next)
          (taken_permuted c.claim.new.self _ _ (IsPermutation-append_comm (c.index-live-index.result ∷ []) (take c.loop-index.index live))
          (c.in_ok-claim.ensures.yes c.if-not-branch.false (take c.loop-index.index live) c.loop-index.invariant.taken));
      inside = subst (λ (xs : List Extent). All (IsInside c.args.reach) xs) (sym next)
          (inside_more c.args.reach (take c.loop-index.index live) c.index-live-index.result c.loop-index.invariant.inside (omega (arith, c.if-end-reach.false, c.end.ensures)));
    }
