pub mod AddLemmas
pub mod GiveUpLemmas
pub mod ByReadsLemmas
pub mod StandingLemmas
pub mod PhraseLemmas
pub mod CacheLemmas
pub mod ReadableLemmas
mod SealLemmas
mod LiveLemmas
mod PutLemmas
mod StoreLemmas
mod AtLemmas
mod LoadLemmas
mod JobLemmas
mod WorkLemmas
mod StintLemmas
mod BeginLemmas
mod AdvanceLemmas
