use Rattle.base_sample.proofs.LawLemmas.{minutes}
use Rattle.base_sample.proofs.laws.minutes_are_exact.Goals as goal

pub returns : goal.returns
returns c = minutes
