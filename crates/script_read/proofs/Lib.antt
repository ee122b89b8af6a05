mod NumberLemmas
mod WordLemmas
mod MakingLemmas
mod ValueLemmas
mod ShareLemmas
mod Calendar
pub mod Ranges
mod Cuts
mod LineLemmas
mod PassedOver
mod LongTexts
mod WaitLemmas
pub mod Joins
mod ReaderLemmas
mod CallLemmas
pub mod Splitting
pub mod RunLemmas
