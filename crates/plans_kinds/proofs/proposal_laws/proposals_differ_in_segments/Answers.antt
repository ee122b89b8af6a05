use Rattle.plans_kinds.proofs.Pieces.{differ_in_segments}
use Rattle.plans_kinds.proofs.proposal_laws.proposals_differ_in_segments.Goals as goal

pub returns : goal.returns
returns c = differ_in_segments
