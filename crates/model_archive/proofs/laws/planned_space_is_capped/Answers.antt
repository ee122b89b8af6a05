use Rattle.model_archive.proofs.BoundLemmas.{planned_capped}
use Rattle.model_archive.proofs.laws.planned_space_is_capped.Goals as goal

pub returns : goal.returns
returns c = planned_capped
