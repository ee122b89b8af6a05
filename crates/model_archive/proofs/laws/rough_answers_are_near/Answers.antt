use Rattle.model_archive.proofs.NearLemmas.{near_by_frequencies}
use Rattle.model_archive.proofs.RoughLemmas.{rough_is_near}
use Rattle.model_archive.proofs.RoughMade.{made_rough}
use Rattle.model_archive.proofs.laws.rough_answers_are_near.Goals as goal

pub returns : goal.returns
returns c = record { near = rough_is_near; frequencies = near_by_frequencies; made = made_rough }
