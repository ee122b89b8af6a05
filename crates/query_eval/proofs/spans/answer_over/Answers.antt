use Rattle.std.proofs.Common.{ap, ◌∙◌, arith, filter}
use Rattle.text_words.proofs.CountLemmas.{IsDistinct-distinct}
use Rattle.query_lang.specs.Meaning.{words_of, occurring}
use Rattle.lists_postings.specs.Kinds.{is_alive}
use Rattle.query_eval.specs.Facts.{of_doc}
use Rattle.query_eval.specs.Found.{told}
use Rattle.query_eval.specs.Spans.{scored_at}
use Rattle.query_eval.proofs.FactLemmas.{facts-score}
use Rattle.query_eval.proofs.spans.answer_over.Goals as goal

pub read_of-requires : goal.read_of-requires
read_of-requires c = omega (arith, c.requires, c.in_ok-room.ensures.few)

pub returns-clause-rows : goal.returns-clause-rows
returns-clause-rows c =
    c.in_ok-rows.ensures (scored_at (λ doc t. is_alive c.args.lives.now doc.0 t) (λ doc t. told (words_of c.args.query.now) c.args.parts.now t doc.0) c.args.query.now)
    (facts-score c.args.query.now c.args.lives.now c.args.parts.now c.deref.result.now (IsDistinct-distinct (occurring c.args.query.now)) c.requires (λ d. ap (filter (of_doc d)) c.deref.ensures.value ∙ c.in_ok-facts.ensures.each d))
