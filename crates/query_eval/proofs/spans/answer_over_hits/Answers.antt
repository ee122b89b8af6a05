use Rattle.std.proofs.Common.{ap, ◌∙◌, arith, filter}
use Rattle.text_words.proofs.CountLemmas.{IsDistinct-distinct}
use Rattle.query_lang.specs.Meaning.{occurring}
use Rattle.query_eval.specs.Facts.{of_doc}
use Rattle.query_eval.proofs.OverHits.{scored_by_hits, hits-score, hits-answer}
use Rattle.query_eval.proofs.spans.answer_over_hits.Goals as goal

pub read_of-requires : goal.read_of-requires
read_of-requires c = omega (arith, c.requires, c.in_ok-room.ensures.few)

pub returns-clause-rows : goal.returns-clause-rows
returns-clause-rows c =
    let distinct = IsDistinct-distinct (occurring c.args.query.now) in
    hits-answer c.args.query.now c.args.parts.now c.args.span.from c.args.span.to _ distinct c.requires
    (c.in_ok-rows.ensures (scored_by_hits c.args.query.now c.args.parts.now)
    (hits-score c.args.query.now c.args.parts.now c.deref.result.now distinct c.requires (λ d. ap (filter (of_doc d)) c.deref.ensures.value ∙ c.in_ok-facts.ensures.each d)))
