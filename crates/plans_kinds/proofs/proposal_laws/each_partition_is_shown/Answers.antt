use Rattle.plans_kinds.proofs.Pieces.{shown}
use Rattle.plans_kinds.proofs.proposal_laws.each_partition_is_shown.Goals as goal

pub returns : goal.returns
returns c = shown
