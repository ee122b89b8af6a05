use Rattle.archive_check.proofs.HeldLemmas.{found_sound}
use Rattle.archive_check.proofs.laws.what_stands_is_found_sound.Goals as goal

pub returns : goal.returns
returns c = found_sound
