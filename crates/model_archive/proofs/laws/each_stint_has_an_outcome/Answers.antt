use Rattle.model_archive.proofs.OutcomeLemmas.{each_stint, silent_keeps, stint_legal, stint_loads}
use Rattle.model_archive.proofs.laws.each_stint_has_an_outcome.Goals as goal

pub returns : goal.returns
returns c = record { outcome = each_stint; loads = stint_loads; legal = stint_legal; silent = silent_keeps }
