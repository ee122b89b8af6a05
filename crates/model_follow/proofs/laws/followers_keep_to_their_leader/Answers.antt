use Rattle.model_follow.proofs.LeaderLemmas.{of_a_leader, stay_prefixes}
use Rattle.model_follow.proofs.laws.followers_keep_to_their_leader.Goals as goal

pub returns : goal.returns
returns c = record { prefixes = stay_prefixes; cases = of_a_leader }
