use Rattle.std.proofs.Common.{[], ap, ◌∙◌, arith}
use Rattle.query_lang.specs.Evaluation.{truths_of, top_truth, most_at}
use Rattle.query_lang.proofs.NumberLemmas.{is_query}
use Rattle.query_lang.proofs.query.query_of.Goals as goal

pub invariant_of-result : goal.invariant_of-result
invariant_of-result c =
    let n = c.in_ok-words.ensures in
    is_query c.args.laid.now c.in_ok-words.field-0.words.keys _ _ _ c.requires.spelled c.requires.few c.requires.light
    (record { words_are = n.words; ops_are = n.ops; placed = n.placed })
    (omega (arith, c.in_ok-weights.ensures.count, c.len.ensures.len))
    (λ k l. c.in_ok-weights.ensures.weights k (omega (arith, l, c.len.ensures.len)) ∙ ap (most_at k) c.deref.ensures.value)
    (c.in_ok-bare.ensures ∙ ap (λ ops. top_truth (truths_of (λ _. 0) ops [])) c.deref-2.ensures.value)
