use Rattle.std.proofs.Common.{◌≡◌, ◌<◌, length, sym, ◌∙◌, rules, tests}
use Rattle.std.proofs.lemmas.Bool.{false≢true}
use Rattle.archive_follow.proofs.FoundLemmas.{found, not_good, nothing_there}
use Rattle.archive_follow.proofs.planning.list_for.Goals.{then-good, else-good}
use Rattle.archive_follow.proofs.planning.list_for.Goals as goal

pub returns-then-is_empty : goal.returns-then-is_empty
returns-then-is_empty c = λ h stands.
    let none : length c.in_ok-list.list.items ≡ 0 = search (rules, tests) in
    nothing_there h c.args.plan.now c.in_ok-list.list.items (c.in_ok-list.ensures.list h stands) none

pub returns : goal.returns
returns c = λ h stands.
    let listed = c.in_ok-list.ensures.list h stands in
    let some : 0 < length c.in_ok-list.list.items = search (rules, tests) in
    let good = rw (c.deref-2.ensures.value, c.as_slice.ensures) at c.in_ok-good.ensures in
    elim c.if-good.branch [
      | then-good w ↦ rw w.result-is (found h c.args.plan.now c.in_ok-list.list.items c.requires.ranges
          (λ after. false≢true (sym c.if-is_late.false ∙ (c.is_late.ensures h stands).1 after))
          (λ before. false≢true (sym c.if-is_before_live.false ∙ (c.is_before_live.ensures h stands).1 before))
          listed some (good.0 w.if-good.true))
      | else-good w ↦ rw w.result-is (not_good h c.args.plan.now c.in_ok-list.list.items listed (λ is. false≢true (sym w.if-good.false ∙ good.1 is)))
    ]
