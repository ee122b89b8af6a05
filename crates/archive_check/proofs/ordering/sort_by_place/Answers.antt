use Rattle.std.proofs.Common.{rules}
use Rattle.std.proofs.lemmas.List.Sorted.{IsNonDecreasingBy-from_sort_by_key, answers_always}
use Rattle.model_archive.proofs.Sorting.{stable-of}
use Rattle.archive_check.proofs.ordering.sort_by_place.Goals as goal

pub returns-clause-sorted : goal.returns-clause-sorted
returns-clause-sorted c = IsNonDecreasingBy-from_sort_by_key (λ t. t.place) _ c.in_ok-sort_by_key.ensures.sorted (λ a r q k. search rules)

pub returns-clause-stable : goal.returns-clause-stable
returns-clause-stable c = stable-of (λ t. t.place) c.args.ranked.now.items c.sort_by_key.new.self.items (c.sort_by_key.ensures.stable (λ t. t.place) (answers_always _ _ _ (λ f a r g h. search rules)))
