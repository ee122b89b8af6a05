mod TextLemmas
mod SegmentLemmas
mod LeastLemmas
mod PlanLemmas
mod OrderLemmas
pub mod LawLemmas
pub mod SoundLemmas
pub mod DigestLemmas
pub mod HeldLemmas
pub mod OpenLemmas
