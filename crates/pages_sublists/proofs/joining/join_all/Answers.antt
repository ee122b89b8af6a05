use Rattle.pages_sublists.proofs.JoinLemmas.{in_turn}
use Rattle.pages_sublists.proofs.joining.join_all.Goals as goal

pub returns-else-len-gt1-clause-joined : goal.returns-else-len-gt1-clause-joined
returns-else-len-gt1-clause-joined c = in_turn c.args.lists.items c.only.result.items c.requires c.only.ensures.joined
