use Rattle.std.proofs.lemmas.List.Filters.{dedup_is}
use Rattle.std.proofs.lemmas.List.Sorted.{IsNonDecreasingBy-from_sort}
use Rattle.query_eval.proofs.MetLemmas.{same, ascending, are-met}
use Rattle.query_eval.proofs.met.docs_met.Goals as goal

pub returns-clause-ascending : goal.returns-clause-ascending
returns-clause-ascending c =
    ascending c.args.span.from c.args.span.to c.args.parts.now _ _ _ c.in_ok-docs.ensures c.sort_unstable.ensures.permutation (dedup_is same _ _ c.dedup.ensures.filtered)
    (IsNonDecreasingBy-from_sort (λ d. d.0) _ c.sort_unstable.ensures.sorted)

pub returns-clause-met : goal.returns-clause-met
returns-clause-met c = are-met c.args.span.from c.args.span.to c.args.parts.now _ _ _ c.in_ok-docs.ensures c.sort_unstable.ensures.permutation (dedup_is same _ _ c.dedup.ensures.filtered)
