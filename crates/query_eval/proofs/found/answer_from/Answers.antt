use Rattle.std.proofs.Common.{ap, ◌∙◌, filter}
use Rattle.text_words.proofs.CountLemmas.{IsDistinct-distinct}
use Rattle.query_lang.specs.Meaning.{words_of, occurring}
use Rattle.query_eval.specs.Found.{told}
use Rattle.query_eval.specs.Hits.{is_of}
use Rattle.query_eval.proofs.FoundLemmas.{hits-tell}
use Rattle.query_eval.proofs.found.answer_from.Goals as goal

pub returns-clause-rows : goal.returns-clause-rows
returns-clause-rows c =
    let words = words_of c.args.query.now in
    c.in_ok-answer.ensures.rows (λ doc. told words c.args.parts.now c.args.t.seconds doc.0)
    (hits-tell c.args.t.seconds words c.args.parts.now c.deref.result.now (IsDistinct-distinct (occurring c.args.query.now)) c.requires
    (λ d. ap (filter (is_of d)) c.deref.ensures.value ∙ c.in_ok-hits.ensures.each d))
