use Rattle.archive_check.proofs.LawLemmas.{verdicts_are_one}
use Rattle.archive_check.proofs.laws.one_verdict.Goals as goal

pub returns : goal.returns
returns c = verdicts_are_one
