use Rattle.std.proofs.Common.{ap₂, ◌∙◌, ℕ}
use Rattle.base_types.specs.declared.fraction.Fraction.{Fraction}
use Rattle.plans_space.specs.Caps as caps
use Rattle.archive_questions.proofs.ShareLemmas.{shared_is}
use Rattle.archive_questions.proofs.sharing.shared_of.Goals as goal

pub returns : goal.returns
returns c = λ horizon ends.
    let limits = c.limits_of-limits.result in
    let choice = c.in_ok-choice.choice in
    shared_is c.args.archive.now.asked horizon c.args.factor.fraction c.args.sealed.now c.in_ok-shares.shares.items limits.unit limits.budget choice.cost c.in_ok-offers.offers.items choice.picks.items
    (c.limits_of-limits.ensures.unit ∙ ap₂ (λ (f : Fraction) (n : ℕ). caps.unit (caps.cap f n)) c.fraction.ensures.value c.postings.ensures.value)
    (c.limits_of-limits.ensures.budget ∙ ap₂ (λ (f : Fraction) (n : ℕ). caps.budget (caps.cap f n)) c.fraction.ensures.value c.postings.ensures.value)
    (rw c.asked.ensures at (c.in_ok-offers.ensures.offers horizon ends))
    (rw c.deref.ensures.value at c.in_ok-choice.ensures.best)
    (rw c.deref-2.ensures.value at c.in_ok-shares.ensures)
    (rw c.deref.ensures.value at c.in_ok-choice.ensures.cost)
