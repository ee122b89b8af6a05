use Rattle.archive_check.proofs.SoundLemmas.{stands_verified, stands_sound}
use Rattle.archive_check.proofs.laws.what_stands_is_sound.Goals as goal

pub returns : goal.returns
returns c = record { verified = stands_verified; sound = stands_sound }
