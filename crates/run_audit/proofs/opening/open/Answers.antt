use Rattle.std.proofs.Common.{◌≤◌, ◌∙◌, [], length, ap, sym, subst}
use Rattle.std.proofs.lemmas.Option.{MatchOption-at_some, MatchOption-at_none}
use Rattle.std.proofs.lemmas.Result.{err_from_is_err_and}
use Rattle.machine_model.specs.States.{DiskState}
use Rattle.machine_model.specs.declared.area.Area.TheVariants.{Pages}
use Rattle.journal_gates.specs.Found.{IsFound}
use Rattle.journal_gates.specs.Spelled.{Spells}
use Rattle.journal_gates.proofs.LoadLemmas.{exit_is}
use Rattle.model_archive.proofs.StandsLemmas.{stands_is_archive}
use Rattle.run_audit.proofs.OpenLemmas.{new_stands}
use Rattle.run_audit.proofs.opening.open.Goals as goal

pub returns-in_err-opened-in-Some-clause-not_archive : goal.returns-in_err-opened-in-Some-clause-not_archive
returns-in_err-opened-in-Some-clause-not_archive g c = λ tells at is.
    let a = g.D.Disk.disk c.args.disk.now in
    let found : IsFound a.holds.journal c.in-Some.journal.end c.in-Some.heads.items = MatchOption-at_some _ _ _ c.in-Some.is (c.in_ok-journal.ensures.found tells) in
    let p = err_from_is_err_and c.from_residual-in_err-opened-in-Some.result c.from_residual-in_err-opened-in-Some.ensures.1 in
    c.opened_by.ensures.not_archive tells found.bodies (c.deref.ensures.value ∙ found.laid_out.heads_are) (rw c.open_to_read.ensures.same found.spelled) a.holds found.spelled (g.met.D.Disk.reach_holds c.args.disk.now Pages tells ∙ sym (ap (λ (d : DiskState). d.reach.pages) c.open_to_read.ensures.same)) at
    (exit_is c.opened_by.result c.from_residual-in_err-opened-in-Some.result c.in_err-opened-in-Some.field-0.0 p.0 _ c.in_err-opened-in-Some.was p.1 p.2 is)

pub returns-in_ok-opened-in-Some-clause-found : goal.returns-in_ok-opened-in-Some-clause-found
returns-in_ok-opened-in-Some-clause-found g c = λ tells.
    let a = g.D.Disk.disk c.args.disk.now in
    let found : IsFound a.holds.journal c.in-Some.journal.end c.in-Some.heads.items = MatchOption-at_some _ _ _ c.in-Some.is (c.in_ok-journal.ensures.found tells) in
    let all = c.in_ok-opened-in-Some.ensures.found tells found.bodies (c.deref.ensures.value ∙ found.laid_out.heads_are) (rw c.open_to_read.ensures.same found.spelled) in
    (all.0, (all.1.0, subst (Spells a.holds.journal) (sym all.1.1) found.spelled))

pub returns-in_ok-opened-in-Some-clause-exact : goal.returns-in_ok-opened-in-Some-clause-exact
returns-in_ok-opened-in-Some-clause-exact g c = λ tells.
    let a = g.D.Disk.disk c.args.disk.now in
    let found : IsFound a.holds.journal c.in-Some.journal.end c.in-Some.heads.items = MatchOption-at_some _ _ _ c.in-Some.is (c.in_ok-journal.ensures.found tells) in
    c.in_ok-opened-in-Some.ensures.exact tells found.bodies (c.deref.ensures.value ∙ found.laid_out.heads_are) (rw c.open_to_read.ensures.same found.spelled) a.holds found.spelled (g.met.D.Disk.reach_holds c.args.disk.now Pages tells ∙ sym (ap (λ (d : DiskState). d.reach.pages) c.open_to_read.ensures.same))

pub returns-in-None-clause-exact : goal.returns-in-None-clause-exact
returns-in-None-clause-exact g c = λ tells at refused.
    let a = g.D.Disk.disk c.args.disk.now in
    let few : length a.holds.journal ≤ 17 = MatchOption-at_none _ _ c.in-None.is (c.in_ok-journal.ensures.found tells) in
    stands_is_archive [] a.holds at (new_stands a.holds few) refused
