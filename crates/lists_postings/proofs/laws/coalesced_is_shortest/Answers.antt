use Rattle.lists_postings.proofs.Coalesced.{coalesced_shortest}
use Rattle.lists_postings.proofs.laws.coalesced_is_shortest.Goals as goal

pub returns : goal.returns
returns c = coalesced_shortest
