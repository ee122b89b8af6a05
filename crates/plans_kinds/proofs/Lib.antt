mod CapLemmas
pub mod GoodLemmas
pub mod Pieces
pub mod PlanLemmas
