use Rattle.plans_kinds.proofs.Pieces.{each_has_a_proposal}
use Rattle.plans_kinds.proofs.proposal_laws.each_list_has_a_proposal.Goals as goal

pub returns : goal.returns
returns c = each_has_a_proposal
