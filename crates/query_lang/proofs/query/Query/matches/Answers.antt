use Rattle.std.proofs.Common.{[], map, sym, ap, ◌∙◌}
use Rattle.std.proofs.lemmas.Result.{IfOk-weaker}
use Rattle.query_lang.specs.Evaluation.{truths_of, top_truth, count_of}
use Rattle.query_lang.specs.Meaning.{words_of, matches}
use Rattle.query_lang.proofs.NumberLemmas.{truth-counts}
use Rattle.query_lang.proofs.query.Query.matches.Goals as goal

pub returns : goal.returns
returns c =
    let i = c.self.invariant in
    IfOk-weaker c.evaluated.result _ _ (λ b h often e.
    h ∙ ap (λ ops. top_truth (truths_of (count_of c.args.counts.now) ops [])) c.deref.ensures.value
    ∙ truth-counts c.args.counts.now often c.self.inside.words.keys c.self.inside.ops.items i.spelled i.placed (e ∙ ap (map often) (ap words_of (sym c.self.view_is) ∙ sym i.words_are))
    ∙ ap (λ q. matches q often) c.self.view_is) c.evaluated.ensures
