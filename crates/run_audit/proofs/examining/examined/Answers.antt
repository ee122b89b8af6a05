use Rattle.std.proofs.Common.{◌∙◌, List, subst}
use Rattle.model_archive.specs.declared.stored.StoredPlan.{StoredPlan}
use Rattle.archive_check.specs.Digests.{IsFinding}
use Rattle.archive_check.proofs.LawLemmas.{loaded_in_order}
use Rattle.archive_check.proofs.OpenLemmas.{placed_lie, live_lie}
use Rattle.run_audit.proofs.examining.examined.Goals as goal

pub verify_with_digests-requires-clause-reached : goal.verify_with_digests-requires-clause-reached
verify_with_digests-requires-clause-reached g c = let (h, is) = c.requires.opened in is.within

pub verify_with_digests-requires-clause-texts : goal.verify_with_digests-requires-clause-texts
verify_with_digests-requires-clause-texts g c =
    let (h, is) = c.requires.opened in
    placed_lie h c.args.archive.now.directory.changes c.args.archive.now.journal.end is.placed is.end_is

pub verify_with_digests-requires-clause-order : goal.verify_with_digests-requires-clause-order
verify_with_digests-requires-clause-order g c =
    let (h, is) = c.requires.opened in
    loaded_in_order h c.args.archive.now.directory.changes is.loadable is.placed

pub verify_with_digests-requires-clause-places : goal.verify_with_digests-requires-clause-places
verify_with_digests-requires-clause-places g c =
    let (h, is) = c.requires.opened in
    rw (c.plans-plans.ensures ∙ is.plans_are) (live_lie h (g.D.Disk.disk c.args.disk.now).reach.pages is.loadable is.live)

pub returns-in-Ok-clause-examined : goal.returns-in-Ok-clause-examined
returns-in-Ok-clause-examined g c = λ tells h is.
    let holds = (g.D.Disk.disk c.args.disk.now).holds in
    let changes = c.args.archive.now.directory.changes in
    let F : List StoredPlan → Type 0 = λ l. IsFinding holds.journal changes holds.pages l c.in-Ok.finding in
    (changes, is.placed, subst F (c.plans-plans.ensures ∙ is.plans_are) (c.in-Ok.ensures.finding tells))
