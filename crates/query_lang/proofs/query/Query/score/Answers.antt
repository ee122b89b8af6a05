use Rattle.std.proofs.Common.{map, sym, ap, ap₂, ◌∙◌}
use Rattle.query_lang.specs.Evaluation.{scored}
use Rattle.query_lang.specs.Meaning.{words_of, weight, score}
use Rattle.query_lang.specs.Numbered.{named}
use Rattle.query_lang.specs.Postfix.{tree}
use Rattle.query_lang.proofs.NumberLemmas.{scored-map}
use Rattle.query_lang.proofs.query.Query.score.Goals as goal

pub returns : goal.returns
returns c = λ often e.
    let i = c.self.invariant in
    let q = tree (named c.self.inside.words.keys c.self.inside.ops.items) in
    c.scored.ensures
    ∙ ap₂ scored (c.deref.ensures.value ∙ i.weights_are ∙ ap (map (weight q)) i.words_are) (e ∙ ap (λ p. map often (words_of p)) (sym c.self.view_is))
    ∙ scored-map (weight q) often (words_of q)
    ∙ ap (λ p. score p often) c.self.view_is
