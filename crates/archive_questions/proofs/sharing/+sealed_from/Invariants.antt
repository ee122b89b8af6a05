use Rattle.std.specs.Prelude.{length}
use Rattle.archive_questions.proofs.sharing.+sealed_from.Given as goal

abbrev pub decreases-sealed_from : goal.decreases-sealed_from
decreases-sealed_from l = length l.phrases.now
