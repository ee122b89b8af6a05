use Rattle.std.proofs.Common.{arith, ap, ◌∙◌}
use Rattle.std.specs.Prelude.{sum_by}
use Rattle.std.proofs.lemmas.List.{take_all}
use Rattle.plans_share.specs.Choices.{Offered}
use Rattle.plans_share.proofs.Wholes.{cost-of-wholes}
use Rattle.plans_share.proofs.choosing.cost_of_wholes.Goals as goal

pub returns : goal.returns
returns c = λ picks p z. c.loop-offer.invariant.0 ∙ ap (λ (l : _). sum_by (λ (o : Offered). o.whole.cost) l) (take_all c.loop-offer.offer-index c.args.offers.now (omega (arith, c.loop-offer-test.false))) ∙ cost-of-wholes c.args.offers.now picks p z
