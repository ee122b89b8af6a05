use Rattle.std.proofs.Common.{◌≡◌, ◌≤◌, ℕ, length, take, All}
use Rattle.plans_share.specs.Offers.{AreOffers}
use Rattle.plans_share.specs.Steps.{AreCheap}
use Rattle.archive_questions.specs.Sharers.{EndsAt, sharers}
use Rattle.archive_questions.proofs.sharing.offers_for.Given as goal

abbrev pub invariant-loop-word : goal.invariant-loop-word
invariant-loop-word l = record {
  offers : (horizon : ℕ) → All (EndsAt horizon) l.sealed → AreOffers l.asked horizon l.limits.unit (sharers (take l.word-index l.sealed)) l.offers.items;
  long : length l.offers.items ≡ l.word-index;
  fronts : All (λ o. length o.front ≤ 4097) l.offers.items;
  cheap : All AreCheap l.offers.items;
}
