use Rattle.std.proofs.Common.{Option, subst}
use Rattle.archive_check.specs.declared.digests.Digests.TheVariants.{Asked}
use Rattle.archive_check.specs.declared.verifying.Altered.{Altered}
use Rattle.archive_check.specs.Verdicts.{with_texts}
use Rattle.archive_check.specs.Checking.{TellsAll}
use Rattle.archive_check.proofs.DigestLemmas.{finding_bad, finding_told}
use Rattle.archive_check.proofs.verifying.verify_with_digests.Goals as goal

pub returns-in-Some-clause-finding : goal.returns-in-Some-clause-finding
returns-in-Some-clause-finding g c = λ told.
    let holds = (g.D.Disk.disk c.args.disk.now).holds in
    let T : Option Altered → Type 0 = λ o. TellsAll Asked (record { verdict = c.in_ok-checked.checked.verdict; altered = o }) (with_texts holds.journal c.args.directory.now.changes) holds.pages c.args.plans.now in
    finding_bad (with_texts holds.journal c.args.directory.now.changes) holds.pages c.args.plans.now c.in_ok-checked.checked.verdict c.in-Some.altered (subst T c.in-Some.is (c.in_ok-checked.ensures.told told))

pub returns-in-None-clause-finding : goal.returns-in-None-clause-finding
returns-in-None-clause-finding g c = λ told.
    let holds = (g.D.Disk.disk c.args.disk.now).holds in
    let T : Option Altered → Type 0 = λ o. TellsAll Asked (record { verdict = c.in_ok-checked.checked.verdict; altered = o }) (with_texts holds.journal c.args.directory.now.changes) holds.pages c.args.plans.now in
    finding_told (with_texts holds.journal c.args.directory.now.changes) holds.pages c.args.plans.now c.in_ok-checked.checked.verdict (subst T c.in-None.is (c.in_ok-checked.ensures.told told))
