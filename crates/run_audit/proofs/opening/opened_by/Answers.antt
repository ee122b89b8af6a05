use Rattle.std.proofs.Common.{◌≤◌, ℕ, List, arith, ap, sym, subst, subst₂, ◌∙◌}
use Rattle.std.proofs.lemmas.Result.{err_from_is_err_and}
use Rattle.pages_area.specs.Live.{AreLive}
use Rattle.machine_model.specs.States.{DiskState}
use Rattle.journal_gates.specs.Spelled.{Spells}
use Rattle.journal_gates.proofs.LoadLemmas.{exit_is}
use Rattle.model_archive.specs.declared.stored.StoredPlan.{StoredPlan}
use Rattle.model_archive.proofs.StandsLemmas.{loaded_is_archive}
use Rattle.archive_plans.specs.Shelves.{extents_all}
use Rattle.run_audit.specs.declared.opening.Opened.{Opened}
use Rattle.archive_plans.proofs.BadLemmas.{bad_archive, bad_shelf, pages_long}
use Rattle.run_audit.proofs.OpenLemmas.{is_opened}
use Rattle.run_audit.proofs.opening.opened_by.Goals as goal

pub returns-in_err-replayed-clause-not_archive : goal.returns-in_err-replayed-clause-not_archive
returns-in_err-replayed-clause-not_archive g c = λ tells bodies laid_out spelled image spells long at is.
    let p = err_from_is_err_and c.from_residual.result c.from_residual.ensures.1 in
    bad_archive image bodies at spells
    (c.replay.ensures.bad tells bodies laid_out spelled at (exit_is c.replay.result c.from_residual.result c.in_err-replayed.field-0.0 p.0 _ c.in_err-replayed.was p.1 p.2 is))

pub returns-in_err-shelf-clause-not_archive : goal.returns-in_err-shelf-clause-not_archive
returns-in_err-shelf-clause-not_archive g c = λ tells bodies laid_out spelled image spells long at is.
    let all = c.in_ok-replayed.ensures.found tells bodies laid_out spelled in
    let p = err_from_is_err_and c.from_residual-in_err-shelf.result c.from_residual-in_err-shelf.ensures.1 in
    bad_shelf image all.0 c.in_ok-replayed.replayed.plans.items c.in_ok-reach.reach at (subst (Spells image.journal) (sym all.3) spells) all.1.loadable all.1.plans_are
    (pages_long image (g.D.Disk.disk c.args.disk.now) (g.D.Disk.disk c.replay.new.disk) c.in_ok-reach.reach c.in_ok-reach.ensures.length c.replay.ensures.same long)
    (c.of.ensures.bad at (exit_is c.of.result c.from_residual-in_err-shelf.result c.in_err-shelf.field-0.0 p.0 _ c.in_err-shelf.was p.1 p.2 is))

pub returns-clause-only : goal.returns-clause-only
returns-clause-only g c = g.met.D.Disk.only_joins _ _ _ c.replay.ensures.only c.length.ensures.only

pub returns-clause-exact : goal.returns-clause-exact
returns-clause-exact g c = λ tells bodies laid_out spelled image spells long at refused.
    let all = c.in_ok-replayed.ensures.found tells bodies laid_out spelled in
    loaded_is_archive image all.0 at (subst (Spells image.journal) (sym all.3) spells) all.1.loadable
    (subst₂ (λ (l : List StoredPlan) (n : ℕ). AreLive (extents_all l) n) all.1.plans_are
    (pages_long image (g.D.Disk.disk c.args.disk.now) (g.D.Disk.disk c.replay.new.disk) c.in_ok-reach.reach c.in_ok-reach.ensures.length c.replay.ensures.same long) c.in_ok-shelf.ensures.live) refused

pub returns-clause-opened : goal.returns-clause-opened
returns-clause-opened g c =
    let all = c.in_ok-replayed.ensures.stands in
    let counted = c.in_ok-replayed.ensures.counted all.0 all.1 in
    let same = c.length.ensures.same in
    let within : c.args.journal.end ≤ (g.D.Disk.disk c.length.new.self).reach.journal = omega (arith, c.requires.reached, ap (λ (d : DiskState). d.reach.journal) same, ap (λ (d : DiskState). d.reach.journal) c.replay.ensures.same) in
    let long = c.in_ok-reach.ensures.length ∙ sym (ap (λ (d : DiskState). d.reach.pages) same) in
    let opened : Opened = record { journal = c.args.journal; directory = c.in_ok-replayed.replayed.directory; shelf = c.in_ok-shelf.shelf } in
    (all.0, is_opened all.0 c.args.heads.now c.in_ok-replayed.replayed.plans.items (g.D.Disk.disk c.length.new.self).reach c.in_ok-reach.reach opened all.1 counted.0 within c.in_ok-shelf.ensures.plans c.in_ok-shelf.ensures.live long)

pub returns-clause-found : goal.returns-clause-found
returns-clause-found g c = λ tells bodies laid_out spelled.
    let all = c.in_ok-replayed.ensures.found tells bodies laid_out spelled in
    let counted = c.in_ok-replayed.ensures.counted all.0 all.1 in
    let same = c.length.ensures.same in
    let within : c.args.journal.end ≤ (g.D.Disk.disk c.length.new.self).reach.journal = omega (arith, c.requires.reached, ap (λ (d : DiskState). d.reach.journal) same, ap (λ (d : DiskState). d.reach.journal) c.replay.ensures.same) in
    let long = c.in_ok-reach.ensures.length ∙ sym (ap (λ (d : DiskState). d.reach.pages) same) in
    let opened : Opened = record { journal = c.args.journal; directory = c.in_ok-replayed.replayed.directory; shelf = c.in_ok-shelf.shelf } in
    (all.0, (is_opened all.0 c.args.heads.now c.in_ok-replayed.replayed.plans.items (g.D.Disk.disk c.length.new.self).reach c.in_ok-reach.reach opened all.1 counted.0 within c.in_ok-shelf.ensures.plans c.in_ok-shelf.ensures.live long, all.3))
