use Rattle.plans_space.proofs.ThereIsABest.{each_has_a_front}
use Rattle.plans_space.proofs.laws.each_list_has_a_front.Goals as goal

pub returns : goal.returns
returns c = each_has_a_front
