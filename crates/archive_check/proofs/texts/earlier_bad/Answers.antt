use Rattle.lists_versions.specs.Changes.{mapped}
use Rattle.archive_entries.specs.Texts.{text_in}
use Rattle.archive_check.proofs.TextLemmas.{bad_new, keeps_behind, keeps_text}
use Rattle.archive_check.proofs.texts.earlier_bad.Goals as goal

pub returns-then-not-comes_first-clause-first : goal.returns-then-not-comes_first-clause-first
returns-then-not-comes_first-clause-first g c = λ told texts first.
    let text = mapped (text_in (g.D.Disk.disk c.args.disk.now).holds.journal) c.args.change in
    keeps_behind texts text c.args.bad.doc c.args.bad.at c.comes_first.result c.comes_first.ensures c.if-not-comes_first.true first

pub returns-then-branch-clause-first : goal.returns-then-branch-clause-first
returns-then-branch-clause-first g c = λ told texts first.
    let text = mapped (text_in (g.D.Disk.disk c.args.disk.now).holds.journal) c.args.change in
    keeps_text texts text c.args.bad.doc c.args.bad.at ((c.in_ok-is_text.ensures.text told).0 c.if-branch.true) first

pub returns-clause-first : goal.returns-clause-first
returns-clause-first g c = λ told texts first.
    let text = mapped (text_in (g.D.Disk.disk c.args.disk.now).holds.journal) c.args.change in
    let test = c.in_ok-is_text.ensures.text told in
    bad_new texts text c.args.bad.doc c.args.bad.at (λ good. (let t = test.1 good in let f = c.if-branch.false in absurd cc)) (c.comes_first.ensures.0 c.if-not-comes_first.false) first
