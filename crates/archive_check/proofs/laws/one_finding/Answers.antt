use Rattle.archive_check.proofs.DigestLemmas.{findings_are_one}
use Rattle.archive_check.proofs.laws.one_finding.Goals as goal

pub returns : goal.returns
returns c = findings_are_one
