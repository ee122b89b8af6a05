use Rattle.std.proofs.Common.{◌≡◌, ℕ, subst}
use Rattle.plans_share.specs.Asked.{asked_in, count_in}
use Rattle.plans_share.specs.Offers.{IsOffer}
use Rattle.archive_questions.proofs.sharing.offered.Goals as goal

pub returns-clause-offer : goal.returns-clause-offer
returns-clause-offer c =
    let word = c.args.word.now in
    let counts : (λ a b. count_in a b c.in_ok-times.times) ≡ asked_in c.args.asked.now word.word = λ i a b. c.in_ok-times.ensures.counts a b i in
    let table = rw c.deref.ensures.value at c.in_ok-table.ensures in
    subst (λ (weight : ℕ → ℕ → ℕ). IsOffer weight word.list.items word.horizon.seconds c.args.limits.unit c.in_ok-offer.offer) counts (c.in_ok-offer.ensures.offer word.list.items word.horizon.seconds table)
