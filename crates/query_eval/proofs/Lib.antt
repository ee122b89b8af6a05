pub mod FirstLemmas
pub mod FoundLemmas
pub mod GivenLemmas
mod HitLemmas
mod HitPlaces
pub mod Ranks
mod HasHitLemmas
mod MadeLemmas
mod Groups
mod Changing
mod FactLemmas
mod OverHits
pub mod SpanRows
pub mod MetLemmas
