use Rattle.plans_guarantee.proofs.Proved.{certificate_proves_least}
use Rattle.plans_guarantee.proofs.checking.certificate_proves_least.Goals as goal

pub returns : goal.returns
returns c = certificate_proves_least
