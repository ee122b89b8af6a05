use Rattle.std.specs.Prelude.{◌≡◌, true}
use Rattle.query_eval.proofs.GivenLemmas.{only_hits_matter}
use Rattle.query_eval.proofs.laws.only_hits_matter.Goals as goal

pub returns : goal.returns
returns c = λ is_alive is_given often query rows bare some all a. only_hits_matter (λ doc. is_alive doc ≡ true) (λ doc. is_given doc ≡ true) often query rows bare some (λ doc k. all doc k) a
