use Rattle.std.proofs.Common.{rules}
use Rattle.std.proofs.lemmas.List.Sorted.{IsNonDecreasingBy-from_sort_by_key, answers_always}
use Rattle.lists_postings.proofs.Stable.{stable-of}
use Rattle.query_eval.proofs.hit.sort_by_doc.Goals as goal

pub returns-clause-sorted : goal.returns-clause-sorted
returns-clause-sorted c = IsNonDecreasingBy-from_sort_by_key (λ x. x.doc.0) _ c.in_ok-sort_by_key.ensures.sorted (λ a r q k. search rules)

pub returns-clause-stable : goal.returns-clause-stable
returns-clause-stable c = stable-of (λ x. x.doc.0) c.args.hits.now.items c.sort_by_key.new.self.items (c.sort_by_key.ensures.stable (λ x. x.doc.0) (answers_always _ _ _ (λ f a r g h. search rules)))
