use Rattle.archive_check.proofs.verifying.verify.Goals as goal

pub returns-clause-verdict : goal.returns-clause-verdict
returns-clause-verdict g c = λ told. let t = c.in_ok-checked.ensures.told told in (t.ordered, t.by_number, t.says)
