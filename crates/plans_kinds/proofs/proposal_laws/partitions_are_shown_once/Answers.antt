use Rattle.plans_kinds.proofs.Pieces.{shown_once}
use Rattle.plans_kinds.proofs.proposal_laws.partitions_are_shown_once.Goals as goal

pub returns : goal.returns
returns c = shown_once
