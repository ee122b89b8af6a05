use Rattle.run_taking.proofs.LawLemmas.{keeps_to_the_leader}
use Rattle.run_taking.proofs.laws.runs_keep_to_the_leader.Goals as goal

pub returns : goal.returns
returns c = keeps_to_the_leader c.followers_keep_to_their_leader.ensures.cases
