pub mod Laws
pub mod Plans
pub mod ProposalLaws
pub mod Proposals
pub mod Steps
