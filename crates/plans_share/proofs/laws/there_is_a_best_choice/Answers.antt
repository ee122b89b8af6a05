use Rattle.plans_share.proofs.ThereIsAChoice.{each_has_an_offer, each_have_a_best}
use Rattle.plans_share.proofs.laws.there_is_a_best_choice.Goals as goal

pub returns-clause-offer : goal.returns-clause-offer
returns-clause-offer c = each_has_an_offer

pub returns-clause-choice : goal.returns-clause-choice
returns-clause-choice c = each_have_a_best
