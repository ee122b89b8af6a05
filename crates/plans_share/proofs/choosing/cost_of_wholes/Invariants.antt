use Rattle.std.proofs.Common.{◌≡◌, ◌≤◌, ◌*◌, ◌^◌, take}
use Rattle.std.specs.Prelude.{sum_by}
use Rattle.plans_share.specs.Choices.{Offered}
use Rattle.plans_share.proofs.choosing.cost_of_wholes.Given as goal

abbrev pub invariant-loop-offer : goal.invariant-loop-offer
invariant-loop-offer l = (l.cost ≡ sum_by (λ (o : Offered). o.whole.cost) (take l.offer-index l.offers)) × (l.cost ≤ 2 ^ 100 * l.offer-index)
