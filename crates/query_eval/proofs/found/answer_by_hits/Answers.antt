use Rattle.std.proofs.Common.{true, refl, rules}
use Rattle.std.proofs.lemmas.Result.{IfOk-weaker}
use Rattle.base_types.specs.declared.ids.DocId.{DocId}
use Rattle.query_lang.specs.Meaning.{words_of}
use Rattle.query_eval.specs.Found.{told, HasHit}
use Rattle.query_eval.proofs.FirstLemmas.{wanted-weaker}
use Rattle.query_eval.proofs.GivenLemmas.{same_alive}
use Rattle.query_eval.proofs.found.answer_by_hits.Goals as goal

pub returns-clause-rows : goal.returns-clause-rows
returns-clause-rows c =
    let hit = HasHit (words_of c.args.query.now) c.args.parts.now c.args.t.seconds in
    IfOk-weaker c.answer_by_living_hits.result _ _ (λ a h. wanted-weaker c.args.wanted a.rows.items (λ rows is. same_alive hit _ (λ (doc : DocId). told (words_of c.args.query.now) c.args.parts.now c.args.t.seconds doc.0) c.args.query.now rows (λ doc. (λ k. k.0, λ k. (k, refl))) is) (h (λ _. true) (λ doc b says. search rules))) c.answer_by_living_hits.ensures.rows
