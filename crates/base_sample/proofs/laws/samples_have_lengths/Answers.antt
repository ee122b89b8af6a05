use Rattle.base_sample.proofs.LawLemmas.{lengths}
use Rattle.base_sample.proofs.laws.samples_have_lengths.Goals as goal

pub returns : goal.returns
returns c = lengths
