use Rattle.std.proofs.Common.{rules, Err, ap}
use Rattle.pages_sublists.specs.declared.why.FetchError.{FetchError}
use Rattle.archive_questions.proofs.ChosenLemmas.{handed, first_damage}
use Rattle.archive_questions.proofs.approximating.rough_answer_of.Goals as goal

pub returns-in_err-parts-clause-fetched : goal.returns-in_err-parts-clause-fetched
returns-in_err-parts-clause-fetched g c = record {
  made = search rules;
  asked = search rules;
  damaged = λ tells h stands cached d is.
      first_damage h _ _ _ _ _ _ _ d c.all_times.ensures.from c.all_times.ensures.to c.words.ensures.words
      (c.in_err-parts.ensures.fetched.damaged tells h stands cached d (ap (λ (e : FetchError). Err e) (handed c.from_residual.result c.in_err-parts.field-0.0 d c.from_residual.ensures.1 is)));
}
