use Rattle.pages_sublists.proofs.HeldLemmas.{held_gathered}
use Rattle.pages_sublists.proofs.laws.held_sublists_are_gathered.Goals as goal

pub returns : goal.returns
returns c = held_gathered
