use Rattle.pages_area.proofs.StayLemmas.{bytes_stay}
use Rattle.pages_area.proofs.laws.extents_apart_stay.Goals as goal

pub returns : goal.returns
returns c = bytes_stay
