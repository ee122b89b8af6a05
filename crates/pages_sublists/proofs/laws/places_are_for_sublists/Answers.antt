use Rattle.pages_sublists.proofs.HoldLemmas.{for_sublists}
use Rattle.pages_sublists.proofs.laws.places_are_for_sublists.Goals as goal

pub returns : goal.returns
returns c = for_sublists
