use Rattle.lists_postings.proofs.Counts.{size_ended}
use Rattle.lists_postings.proofs.laws.size_is_begun_less_ended.Goals as goal

pub returns : goal.returns
returns c = size_ended
