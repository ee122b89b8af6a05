use Rattle.std.proofs.Common.{◌≡◌, ℕ, ap, ◌∙◌, true, filter}
use Rattle.base_types.specs.declared.ids.DocId.{DocId}
use Rattle.text_words.proofs.CountLemmas.{IsDistinct-distinct}
use Rattle.query_lang.specs.Meaning.{words_of, occurring}
use Rattle.query_eval.specs.Found.{told, HasHit}
use Rattle.query_eval.specs.Hits.{is_of, gathered}
use Rattle.query_eval.proofs.FoundLemmas.{hits-tell}
use Rattle.query_eval.proofs.FirstLemmas.{wanted-weaker}
use Rattle.query_eval.proofs.GivenLemmas.{same_alive}
use Rattle.query_eval.proofs.HasHitLemmas.{documents-are}
use Rattle.query_eval.proofs.found.answer_by_living_hits.Goals as goal

pub returns-clause-rows : goal.returns-clause-rows
returns-clause-rows g c = λ alive tells.
    let words = words_of c.args.query.now in
    let t = c.args.t.seconds in
    let parts = c.args.parts.now in
    let hits = c.as_slice-hits.result.now in
    let each : (d : ℕ) → filter (is_of d) hits ≡ filter (is_of d) (gathered t 0 parts) = λ d. ap (filter (is_of d)) c.as_slice-hits.ensures.value ∙ c.in_ok-all.ensures.each d in
    let tell = hits-tell t words parts hits (IsDistinct-distinct (occurring c.args.query.now)) c.requires.many each in
    let had = documents-are t words parts hits c.requires.many each tell in
    wanted-weaker c.args.wanted _ (λ rows is. same_alive (λ doc. HasHit words parts t doc × (alive doc ≡ true)) _ (λ (doc : DocId). told words parts t doc.0) c.args.query.now rows (λ doc. (λ k. ((had doc).0 k.0, k.1), λ k. ((had doc).1 k.0, k.1))) is)
    (c.in_ok-answer.ensures.rows alive tells (λ (doc : DocId). told words parts t doc.0) tell)
