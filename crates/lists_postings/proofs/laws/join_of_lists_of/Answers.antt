use Rattle.lists_postings.proofs.Windows.{join_of_lists_of}
use Rattle.lists_postings.proofs.laws.join_of_lists_of.Goals as goal

pub returns : goal.returns
returns c = join_of_lists_of
