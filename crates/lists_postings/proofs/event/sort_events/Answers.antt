use Rattle.std.proofs.Common.{rules}
use Rattle.std.proofs.lemmas.List.Sorted.{answers_always}
use Rattle.lists_postings.proofs.Sorted.{in-order}
use Rattle.lists_postings.proofs.event.sort_events.Goals as goal

pub returns-clause-sorted : goal.returns-clause-sorted
returns-clause-sorted c = in-order c.sort_unstable_by_key.new.self.items (λ k d a b. c.sort_unstable_by_key.ensures.sorted (λ event. (event.doc, event.at)) (answers_always _ _ _ (λ f a r g m. search rules)) k d a b)
