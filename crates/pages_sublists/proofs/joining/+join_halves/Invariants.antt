use Rattle.std.specs.Prelude.{length}
use Rattle.pages_sublists.proofs.joining.+join_halves.Given as goal

abbrev pub decreases-join_halves : goal.decreases-join_halves
decreases-join_halves l = length l.lists.now
