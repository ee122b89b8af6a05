use Rattle.lists_postings.proofs.Coalesced.{one_coalesced}
use Rattle.lists_postings.proofs.laws.one_coalesced.Goals as goal

pub returns : goal.returns
returns c = one_coalesced
