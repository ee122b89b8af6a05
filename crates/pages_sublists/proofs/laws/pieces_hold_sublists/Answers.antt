use Rattle.pages_sublists.proofs.HoldLemmas.{hold_sublists}
use Rattle.pages_sublists.proofs.laws.pieces_hold_sublists.Goals as goal

pub returns : goal.returns
returns c = hold_sublists
