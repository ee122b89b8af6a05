use Rattle.base_sample.proofs.LawLemmas.{kinds}
use Rattle.base_sample.proofs.laws.samples_are_of_few_kinds.Goals as goal

pub returns : goal.returns
returns c = kinds
