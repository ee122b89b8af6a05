use Rattle.archive_hand.proofs.StandingLemmas.{in_step_stands}
use Rattle.archive_hand.proofs.laws.an_archive_in_step_stands.Goals as goal

pub returns : goal.returns
returns c = in_step_stands
