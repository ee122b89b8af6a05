use Rattle.std.proofs.Common.{◌≡◌, List, All, true, Err, None, get_or, ap, sym, subst, ◌∙◌}
use Rattle.base_types.specs.declared.posting.Posting.{Posting}
use Rattle.pages_sublists.specs.declared.why.Damage.{Damage}
use Rattle.model_archive.specs.declared.stored.StoredPlan.{StoredPlan}
use Rattle.model_archive.specs.Chosen.{GathersOf, IsTailFor}
use Rattle.model_archive.specs.Histories.{changes}
use Rattle.model_archive.specs.Plans.{is_another}
use Rattle.archive_plans.specs.Shelves.{ShelfState}
use Rattle.lists_index.specs.Indexes.{IndexState, Indexes}
use Rattle.archive_questions.proofs.CacheLemmas.{asked_by, nothing_asked}
use Rattle.archive_hand.proofs.CacheLemmas.{stands_but_cache}
use Rattle.archive_questions.proofs.ChosenLemmas.{damage_of, handed, planned_chosen, planned_is, unplanned_is, whole_chosen}
use Rattle.archive_entries.specs.Live.{IsPlanAt}
use Rattle.archive_entries.proofs.IndexLemmas.{word_list}
use Rattle.archive_questions.proofs.choosing.part_of.Goals as goal

pub returns-in_default-clause-chosen : goal.returns-in_default-clause-chosen
returns-in_default-clause-chosen g c = λ tells h stands cached.
    let S : ShelfState → Type 0 = λ s. All (λ x. is_another c.args.word.now x ≡ true) s.plans in
    let none = unplanned_is c.args.archive.now h c.args.word.now stands (subst S c.shelf.ensures.shelf c.in_default.ensures) in
    let I : IndexState → Type 0 = λ i. Indexes i (changes h) in
    let (list, listed, rows, whole) = c.in_ok-part.ensures (changes h) (subst I (sym c.index.ensures) stands.index_is) in
    whole_chosen h (g.D.Disk.disk c.args.disk.now).holds.pages c.args.word.now c.args.span.from c.args.span.to _ list _ none (word_list h c.args.word.now list listed)
    (c.whole_part.ensures.list ∙ rows) (c.whole_part.ensures.read ∙ whole)

pub returns-in_default-clause-asked : goal.returns-in_default-clause-asked
returns-in_default-clause-asked g c = λ tells h stands cached.
    let S : ShelfState → Type 0 = λ s. All (λ x. is_another c.args.word.now x ≡ true) s.plans in
    let none = unplanned_is c.args.archive.now h c.args.word.now stands (subst S c.shelf.ensures.shelf c.in_default.ensures) in
    let disk = g.D.Disk.disk c.args.disk.now in
    let kept = c.args.archive.now.shelf.cache in
    asked_by c.args.word.now h disk.holds.pages None c.args.span.from c.args.span.to kept kept disk disk none (nothing_asked kept disk)

pub returns-in_err-stored-clause-damaged : goal.returns-in_err-stored-clause-damaged
returns-in_err-stored-clause-damaged g c = λ tells h stands cached d is.
    let there = subst (λ (x : ShelfState). IsPlanAt x.plans c.args.word.now c.in-Some.at) c.shelf.ensures.shelf c.in-Some.ensures in
    let s = c.index-plans-at.result in
    let same : s ≡ get_or c.args.archive.now.shelf.plans c.in-Some.at s = c.index-plans-at.is ∙ ap (λ (ps : List StoredPlan). get_or ps c.in-Some.at s) (c.plans.ensures ∙ ap (λ (x : ShelfState). x.plans) c.shelf-2.ensures.shelf) in
    let P : Damage → Type 0 = λ x. GathersOf (g.D.Disk.disk c.args.disk.now).holds.pages s.plan c.args.span.from c.args.span.to (Err x) in
    record {
      plan = s.plan;
      live = planned_is c.args.archive.now h c.args.word.now c.in-Some.at s stands there same;
      told = damage_of P c.in_err-stored.field-0.0 d (c.in_err-stored.ensures.damaged tells cached s same) (handed c.from_residual-in_err-stored.result c.in_err-stored.field-0.0 d c.from_residual-in_err-stored.ensures.1 is);
    }

pub returns-clause-chosen : goal.returns-clause-chosen
returns-clause-chosen g c = λ tells h stands cached.
    let there = subst (λ (x : ShelfState). IsPlanAt x.plans c.args.word.now c.in-Some.at) c.shelf.ensures.shelf c.in-Some.ensures in
    let s = c.index-plans-at.result in
    let same : s ≡ get_or c.args.archive.now.shelf.plans c.in-Some.at s = c.index-plans-at.is ∙ ap (λ (ps : List StoredPlan). get_or ps c.in-Some.at s) (c.plans.ensures ∙ ap (λ (x : ShelfState). x.plans) c.shelf-2.ensures.shelf) in
    let tail = c.in_ok-tail.ensures h (stands_but_cache c.args.archive.now c.gather.new.self h c.in_ok-stored.ensures.but_cache stands) in
    planned_chosen h (g.D.Disk.disk c.args.disk.now).holds.pages c.args.word.now s.plan c.args.span.from c.args.span.to c.in_ok-stored.stored.list.items c.deref.result.now c.in_ok-part-2.part.list.items c.in_ok-stored.stored.read c.in_ok-part-2.part.read
    (planned_is c.args.archive.now h c.args.word.now c.in-Some.at s stands there same) (c.in_ok-stored.ensures.gathered tells cached s same)
    (subst (λ (l : List Posting). IsTailFor h c.args.word.now c.args.span.to s.plan.horizon.seconds l) (sym c.deref.ensures.value)
    (subst (λ (x : StoredPlan). IsTailFor h c.args.word.now c.args.span.to x.plan.horizon.seconds c.in_ok-tail.tail.items) (sym c.index-plans-at.is) tail)) c.in_ok-part-2.ensures.list c.in_ok-part-2.ensures.read

pub returns-clause-asked : goal.returns-clause-asked
returns-clause-asked g c = λ tells h stands cached.
    let there = subst (λ (x : ShelfState). IsPlanAt x.plans c.args.word.now c.in-Some.at) c.shelf.ensures.shelf c.in-Some.ensures in
    let s = c.index-plans-at.result in
    let same : s ≡ get_or c.args.archive.now.shelf.plans c.in-Some.at s = c.index-plans-at.is ∙ ap (λ (ps : List StoredPlan). get_or ps c.in-Some.at s) (c.plans.ensures ∙ ap (λ (x : ShelfState). x.plans) c.shelf-2.ensures.shelf) in
    asked_by c.args.word.now h (g.D.Disk.disk c.args.disk.now).holds.pages _ c.args.span.from c.args.span.to _ _ _ _ (planned_is c.args.archive.now h c.args.word.now c.in-Some.at s stands there same) (c.in_ok-stored.ensures.asked tells cached s same)
