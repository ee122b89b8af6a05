use Rattle.model_archive.proofs.CertifyingLemmas.{certified_least}
use Rattle.model_archive.proofs.VerifyLemmas.{good_is_sound}
use Rattle.model_archive.proofs.laws.good_plans_are_least_and_sound.Goals as goal

pub returns : goal.returns
returns c = record { certified = certified_least; sound = good_is_sound }
