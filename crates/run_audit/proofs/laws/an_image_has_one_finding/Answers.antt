use Rattle.run_audit.proofs.AuditLemmas.{one_finding_on}
use Rattle.run_audit.proofs.laws.an_image_has_one_finding.Goals as goal

pub returns : goal.returns
returns c = one_finding_on
