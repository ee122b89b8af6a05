pub mod ChainLaws
mod Complete
pub mod Deciding
mod NumberLemmas
mod PostfixLaws
mod ReadLemmas
mod LightLemmas
pub mod ReadingLaws
mod Sound
mod TokenLemmas
