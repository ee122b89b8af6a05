use Rattle.lists_postings.proofs.Clipping.{one_list_of}
use Rattle.lists_postings.proofs.laws.one_list_of.Goals as goal

pub returns : goal.returns
returns c = one_list_of
