use Rattle.run_audit.proofs.AuditLemmas.{sound_whole}
use Rattle.run_audit.proofs.laws.a_sound_image_is_whole.Goals as goal

pub returns : goal.returns
returns c = sound_whole
