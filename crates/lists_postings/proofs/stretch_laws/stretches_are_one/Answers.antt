use Rattle.lists_postings.proofs.Longest.{one}
use Rattle.lists_postings.proofs.stretch_laws.stretches_are_one.Goals as goal

pub returns : goal.returns
returns g c = one
