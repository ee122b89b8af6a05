use Rattle.lists_approx.proofs.Existence.{each_has_a_longest_first}
use Rattle.lists_approx.proofs.laws.each_has_a_longest_first.Goals as goal

pub returns : goal.returns
returns c = each_has_a_longest_first
