use Rattle.std.proofs.Common.{arith, ◌+◌, ◌∷◌, drop, subst, length, ap, List, Option, Some}
use Rattle.plans_share.specs.Choices.{Offered, picked}
use Rattle.plans_share.specs.Steps.{IsBestPick, through}
use Rattle.plans_share.specs.declared.steps.Pick.{Pick}
use Rattle.plans_share.proofs.Rows.{row-behind}
use Rattle.plans_share.proofs.Walk.{IsUnderway, way_on, walk-more}
use Rattle.plans_share.proofs.choosing.picks_along.Goals as goal

pub unwrap-next-requires : goal.unwrap-next-requires
unwrap-next-requires c =
    let h = row-behind c.args.offers.now (c.args.budget + 1) c.loop-w.w c.args.rows.now c.index-rows-offers.result c.index-offers-w.result c.deref.result.now c.loop-w-test.true c.requires.rows c.index-rows-offers.is c.deref.ensures.value c.index-offers-w.is in
    let u : IsUnderway c.args.offers.now c.args.budget c.args.cost c.loop-w.picks.items (c.index-offers-w.result ∷ drop (c.loop-w.w + 1) c.args.offers.now) c.loop-w.left = subst (λ (o : List Offered). IsUnderway c.args.offers.now c.args.budget c.args.cost c.loop-w.picks.items o c.loop-w.left) h.0 c.loop-w.invariant in
    way_on c.index-offers-w.result (drop (c.loop-w.w + 1) c.args.offers.now) (c.args.budget + 1) c.deref.result.now h.1 c.loop-w.left (omega (arith, c.loop-w.invariant.within)) u.path u.is c.best_pick.result c.best_pick.ensures

pub loop-w-preserved : goal.loop-w-preserved
loop-w-preserved c =
    let h = row-behind c.args.offers.now (c.args.budget + 1) c.loop-w.w c.args.rows.now c.index-rows-offers.result c.index-offers-w.result c.deref.result.now c.loop-w-test.true c.requires.rows c.index-rows-offers.is c.deref.ensures.value c.index-offers-w.is in
    let u : IsUnderway c.args.offers.now c.args.budget c.args.cost c.loop-w.picks.items (c.index-offers-w.result ∷ drop (c.loop-w.w + 1) c.args.offers.now) c.loop-w.left = subst (λ (o : List Offered). IsUnderway c.args.offers.now c.args.budget c.args.cost c.loop-w.picks.items o c.loop-w.left) h.0 c.loop-w.invariant in
    let b : IsBestPick (λ k. through c.deref.result.now (picked c.index-offers-w.result k) c.loop-w.left) (length c.index-offers-w.result.front + 1) (Some c.unwrap-next.result) =
    subst (λ (o : Option Pick). IsBestPick (λ k. through c.deref.result.now (picked c.index-offers-w.result k) c.loop-w.left) (length c.index-offers-w.result.front + 1) o) c.unwrap-next.ensures c.best_pick.ensures in
    (walk-more c.index-offers-w.result (drop (c.loop-w.w + 1) c.args.offers.now) (c.args.budget + 1) c.deref.result.now h.1 c.loop-w.left (omega (arith, c.loop-w.invariant.within)) c.args.offers.now c.args.budget c.args.cost c.loop-w.picks.items c.push.new.self.items c.unwrap-next.result c.point.result.charge b (ap (λ p. p.charge) c.point.ensures) c.in_ok-push.ensures.items u).1
