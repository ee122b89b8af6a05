use Rattle.archive_check.proofs.HeldLemmas.{sound_is_held}
use Rattle.archive_check.proofs.laws.sound_with_digests_is_held.Goals as goal

pub returns : goal.returns
returns c = sound_is_held
