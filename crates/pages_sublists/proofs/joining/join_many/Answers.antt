use Rattle.pages_sublists.proofs.JoinLemmas.{in_turn}
use Rattle.pages_sublists.proofs.joining.join_many.Goals as goal

pub returns-in-Ok-clause-joined : goal.returns-in-Ok-clause-joined
returns-in-Ok-clause-joined c = in_turn c.args.lists.now c.in-Ok.union.items c.requires c.in-Ok.ensures
