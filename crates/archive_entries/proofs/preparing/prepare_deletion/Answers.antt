use Rattle.std.proofs.Common.{◌<◌, ◌^◌, rules}
use Rattle.archive_entries.proofs.PrepareLemmas.{delete_refused, deletion_prepared}
use Rattle.archive_entries.proofs.preparing.prepare_deletion.Goals as goal

pub returns-in-Err-clause-prepared : goal.returns-in-Err-clause-prepared
returns-in-Err-clause-prepared c = λ h placed indexed. delete_refused c.args.directory.now.changes h c.args.doc c.args.at c.in-Err.why _ placed (search rules) (search rules)

pub returns-clause-prepared : goal.returns-clause-prepared
returns-clause-prepared c = λ h placed indexed.
    let fits : c.args.doc.0 < 2 ^ 32 = search rules in
    let made = deletion_prepared c.args.directory.now.changes h c.args.doc c.args.at c.in_ok-body.body.items placed fits (search rules) c.in_ok-body.ensures.spelled in
    (made.0, c.in-Ok-prepare.ensures.prepared, made.1)
