use Rattle.lists_tails.proofs.Followed.{frequency_of_last_turn}
use Rattle.lists_tails.proofs.laws.frequency_of_last_turn.Goals as goal

pub returns : goal.returns
returns c = frequency_of_last_turn
