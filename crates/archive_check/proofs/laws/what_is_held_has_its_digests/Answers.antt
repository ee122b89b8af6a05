use Rattle.archive_check.proofs.HeldLemmas.{held_digests}
use Rattle.archive_check.proofs.laws.what_is_held_has_its_digests.Goals as goal

pub returns : goal.returns
returns c = held_digests
