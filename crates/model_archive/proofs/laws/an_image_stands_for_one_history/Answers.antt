use Rattle.model_archive.proofs.StandsLemmas.{stands_once, stands_is_archive}
use Rattle.model_archive.proofs.laws.an_image_stands_for_one_history.Goals as goal

pub returns : goal.returns
returns c = record { one_history = λ image one other. stands_once one other image; not_refused = λ image h at. stands_is_archive h image at }
