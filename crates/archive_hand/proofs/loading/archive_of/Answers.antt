use Rattle.std.proofs.Common.{◌≡◌, ℕ, List, arith, sym, subst, subst₂}
use Rattle.std.proofs.lemmas.Result.{err_from_is_err_and}
use Rattle.pages_area.specs.Live.{AreLive}
use Rattle.journal_gates.specs.Spelled.{Spells}
use Rattle.journal_gates.proofs.LoadLemmas.{exit_is}
use Rattle.model_archive.specs.declared.stored.StoredPlan.{StoredPlan}
use Rattle.model_archive.specs.Histories.{History}
use Rattle.model_archive.specs.Histories as histories
use Rattle.model_archive.proofs.HistoryLemmas.{end_of-least}
use Rattle.model_archive.proofs.StandsLemmas.{loaded_is_archive}
use Rattle.lists_index.specs.Indexes.{state_of, Indexes}
use Rattle.archive_plans.specs.Shelves.{extents_all}
use Rattle.archive_hand.specs.States.{StandsFor}
use Rattle.archive_entries.specs.Replaying.{IsReplayed}
use Rattle.archive_plans.proofs.BadLemmas.{bad_archive, bad_shelf, pages_long}
use Rattle.archive_hand.proofs.LoadLemmas.{stands_replayed}
use Rattle.archive_hand.proofs.loading.archive_of.Given.{Over}
use Rattle.archive_hand.proofs.loading.archive_of.Goals as goal

pub returns-in_err-replayed-clause-not_archive : goal.returns-in_err-replayed-clause-not_archive
returns-in_err-replayed-clause-not_archive g c = λ tells bodies laid_out spelled image spells long at is.
    let p = err_from_is_err_and c.from_residual.result c.from_residual.ensures.1 in
    bad_archive image bodies at spells
    (c.replay.ensures.bad tells bodies laid_out spelled at (exit_is c.replay.result c.from_residual.result c.in_err-replayed.field-0.0 p.0 _ c.in_err-replayed.was p.1 p.2 is))

pub returns-in_err-shelf-clause-not_archive : goal.returns-in_err-shelf-clause-not_archive
returns-in_err-shelf-clause-not_archive g c = λ tells bodies laid_out spelled image spells long at is.
    let all = c.in_ok-replayed.ensures.found tells bodies laid_out spelled in
    let p = err_from_is_err_and c.from_residual-in_err-shelf.result c.from_residual-in_err-shelf.ensures.1 in
    bad_shelf image all.0 c.in_ok-replayed.replayed.plans.items c.in_ok-reach.reach at (subst (Spells image.journal) (sym all.3) spells) all.1.loadable all.1.plans_are
    (pages_long image (g.D.Disk.disk c.args.disk.now) (g.D.Disk.disk c.replay.new.disk) c.in_ok-reach.reach c.in_ok-reach.ensures.length c.replay.ensures.same long)
    (c.of.ensures.bad at (exit_is c.of.result c.from_residual-in_err-shelf.result c.in_err-shelf.field-0.0 p.0 _ c.in_err-shelf.was p.1 p.2 is))

pub returns-clause-only : goal.returns-clause-only
returns-clause-only g c = g.met.D.Disk.only_joins _ _ _ c.replay.ensures.only c.length.ensures.only

pub of-requires-2-clause-few : goal.of-requires-2-clause-few
of-requires-2-clause-few g c =
    let all = c.in_ok-replayed.ensures.stands in
    let counted = c.in_ok-replayed.ensures.counted all.0 all.1 in
    omega (arith, end_of-least all.0, counted.0, counted.1)

pub of-requires-2-clause-stands : goal.of-requires-2-clause-stands
of-requires-2-clause-stands g c =
    let all = c.in_ok-replayed.ensures.stands in
    let counted = c.in_ok-replayed.ensures.counted all.0 all.1 in
    (all.0, stands_replayed all.0 _ c.args.heads.now _ _ c.in_ok-replayed.replayed.plans.items c.in_ok-shelf.shelf c.args.journal.end _ counted.0 counted.1 all.1 all.2 c.in_ok-shelf.ensures.plans c.in_ok-shelf.ensures.taken all.3)

-- it stands for each history of these entries
stands : (g : Over) (c : goal.After-of-2 g) (h : History) → IsReplayed h c.args.heads.now c.in_ok-replayed.replayed.directory.changes c.in_ok-replayed.replayed.plans.items
    → Indexes (state_of c.in_ok-replayed.replayed.index) (histories.changes h) → c.in_ok-replayed.replayed.marked ≡ histories.is_marked h → StandsFor c.of-2.result h
stands g c h replayed indexed marked =
    let counted = c.in_ok-replayed.ensures.counted h replayed in
    rw c.of-2.ensures (stands_replayed h _ c.args.heads.now _ _ c.in_ok-replayed.replayed.plans.items c.in_ok-shelf.shelf c.args.journal.end _ counted.0 counted.1 replayed indexed c.in_ok-shelf.ensures.plans c.in_ok-shelf.ensures.taken marked)

pub returns-clause-stands : goal.returns-clause-stands
returns-clause-stands g c =
    let all = c.in_ok-replayed.ensures.stands in
    (all.0, stands g c all.0 all.1 all.2 all.3)

pub returns-clause-found : goal.returns-clause-found
returns-clause-found g c = λ tells bodies laid_out spelled.
    let all = c.in_ok-replayed.ensures.found tells bodies laid_out spelled in
    (all.0, (stands g c all.0 all.1 all.2 all.4, all.3))

pub returns-clause-exact : goal.returns-clause-exact
returns-clause-exact g c = λ tells bodies laid_out spelled image spells long at refused.
    let all = c.in_ok-replayed.ensures.found tells bodies laid_out spelled in
    loaded_is_archive image all.0 at (subst (Spells image.journal) (sym all.3) spells) all.1.loadable
    (subst₂ (λ (l : List StoredPlan) (n : ℕ). AreLive (extents_all l) n) all.1.plans_are
    (pages_long image (g.D.Disk.disk c.args.disk.now) (g.D.Disk.disk c.replay.new.disk) c.in_ok-reach.reach c.in_ok-reach.ensures.length c.replay.ensures.same long) c.in_ok-shelf.ensures.live) refused
