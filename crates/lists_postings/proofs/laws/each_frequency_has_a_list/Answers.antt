use Rattle.lists_postings.proofs.Existence.{each_has_a_list}
use Rattle.lists_postings.proofs.laws.each_frequency_has_a_list.Goals as goal

pub returns : goal.returns
returns c = each_has_a_list
