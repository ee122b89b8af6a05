use Rattle.model_archive.proofs.StandsLemmas.{not_archive_once}
use Rattle.model_archive.proofs.laws.an_archive_is_refused_at_one_place.Goals as goal

pub returns : goal.returns
returns c = record { one_place = not_archive_once }
