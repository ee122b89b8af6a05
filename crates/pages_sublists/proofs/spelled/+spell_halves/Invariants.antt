use Rattle.std.specs.Prelude.{length}
use Rattle.pages_sublists.proofs.spelled.+spell_halves.Given as goal

abbrev pub decreases-spell_halves : goal.decreases-spell_halves
decreases-spell_halves l = length l.cuts.now
