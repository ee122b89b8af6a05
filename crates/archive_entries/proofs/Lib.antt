pub mod PlaceLemmas
pub mod IndexLemmas
mod ListLemmas
mod LiveLemmas
mod ActLemmas
mod ReplayLemmas
mod SettleLemmas
mod PrepareLemmas
mod BatchingLemmas
