pub mod RunLemmas
pub mod HistoryLemmas
pub mod BatchLemmas
pub mod LiveLemmas
pub mod HoldLemmas
pub mod StandsLemmas
pub mod RefusalLemmas
mod PlanningLemmas
mod SharingLemmas
pub mod StoringLemmas
mod ToldLemmas
pub mod Sorting
pub mod OrderLemmas
pub mod VerifyLemmas
pub mod CertifyingLemmas
mod BatchOutcomes
mod NearLemmas
mod RoughLemmas
pub mod OutcomeLemmas
pub mod SpeakLemmas
mod BoundLemmas
pub mod ChosenLemmas
pub mod RoughMade
pub mod SheetLemmas
pub mod BestLemmas
pub mod HeldBestLemmas
