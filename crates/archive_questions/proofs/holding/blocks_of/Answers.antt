use Rattle.std.proofs.Common.{◌≡◌, List, All, true, get_or, ap, sym, subst, ◌∙◌}
use Rattle.journal_entries.specs.declared.plan.PlanEntry.{PlanEntry}
use Rattle.model_archive.specs.declared.stored.StoredPlan.{StoredPlan}
use Rattle.model_archive.specs.Plans.{is_another}
use Rattle.archive_plans.specs.Shelves.{ShelfState}
use Rattle.archive_entries.specs.Live.{IsPlanAt}
use Rattle.archive_questions.proofs.ChosenLemmas.{planned_is, unplanned_is}
use Rattle.archive_questions.proofs.holding.blocks_of.Goals as goal

pub returns-in_err-place-clause-none : goal.returns-in_err-place-clause-none
returns-in_err-place-clause-none c = λ none h stands plan live.
    let quiet = unplanned_is c.args.archive.now h c.args.word.now stands (subst (λ (s : ShelfState). All (λ x. is_another c.args.word.now x ≡ true) s.plans) c.shelf.ensures.shelf c.in_err-place.ensures) in absurd cc

pub returns-in-Flat-clause-none : goal.returns-in-Flat-clause-none
returns-in-Flat-clause-none c = λ none h stands plan live.
    let there = subst (λ (x : ShelfState). IsPlanAt x.plans c.args.word.now c.in_ok-place.place) c.shelf.ensures.shelf c.in_ok-place.ensures in
    let s = c.index-plans-place.result in
    let same : s ≡ get_or c.args.archive.now.shelf.plans c.in_ok-place.place s = c.index-plans-place.is ∙ ap (λ (ps : List StoredPlan). get_or ps c.in_ok-place.place s) (c.plans.ensures ∙ ap (λ (x : ShelfState). x.plans) c.shelf-2.ensures.shelf) in
    let live-is = planned_is c.args.archive.now h c.args.word.now c.in_ok-place.place s stands there same in
    let one : s.plan ≡ plan = cc in
    ap (λ (p : PlanEntry). p.layout) (sym one) ∙ ap (λ (x : StoredPlan). x.plan.layout) c.index-plans-place.is ∙ c.in-Flat.is
