use Rattle.std.proofs.Common.{◌≡◌, ◌<◌, Option, Some, None, IsSomeAnd, subst, sym}
use Rattle.std.proofs.lemmas.Bool.{false≢true}
use Rattle.journal_entries.specs.declared.plan.PlanEntry.{PlanEntry}
use Rattle.model_archive.specs.Plans.{plan_of}
use Rattle.archive_follow.proofs.FoundLemmas.{none_there, plan_found}
use Rattle.archive_follow.proofs.planning.is_before_live.Goals as goal

pub returns-in-Some : goal.returns-in-Some
returns-in-Some c = λ h stands.
    let plan = c.args.plan.now in
    let there = rw c.shelf.ensures.shelf at c.in-Some.ensures in
    let live = c.in-Some.live.now.plan in
    let is : plan_of h plan.word ≡ Some live = plan_found c.args.archive.now h plan.word there.0 c.in-Some.live.now stands there.1 there.2 in
    let P : Option PlanEntry → Type 0 = λ o. IsSomeAnd o (λ live. plan.horizon.seconds < live.horizon.seconds) in
    (λ yes. subst P (sym is) (c.is_before.ensures.0 yes), λ before. c.is_before.ensures.1 (subst P is before))

pub returns-in-None : goal.returns-in-None
returns-in-None c = λ h stands.
    let plan = c.args.plan.now in
    let is : plan_of h plan.word ≡ None = none_there c.args.archive.now h plan.word stands (rw c.shelf.ensures.shelf at c.in-None.ensures) in
    let P : Option PlanEntry → Type 0 = λ o. IsSomeAnd o (λ live. plan.horizon.seconds < live.horizon.seconds) in
    (λ yes. absurd (false≢true yes), λ before. absurd (subst P is before))
