use Rattle.archive_check.proofs.SoundLemmas.{new_sound}
use Rattle.archive_check.proofs.laws.a_new_archive_is_sound.Goals as goal

pub returns : goal.returns
returns c = new_sound
