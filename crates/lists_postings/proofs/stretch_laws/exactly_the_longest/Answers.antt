use Rattle.lists_postings.proofs.Longest.{exactly}
use Rattle.lists_postings.proofs.stretch_laws.exactly_the_longest.Goals as goal

pub returns : goal.returns
returns g c = exactly
