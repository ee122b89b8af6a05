use Rattle.lists_postings.proofs.Merged.{frequency_of_union}
use Rattle.lists_postings.proofs.laws.frequency_of_union.Goals as goal

pub returns : goal.returns
returns c = frequency_of_union
