mod GroupLemmas
mod GatherLemmas
mod PutLemmas
pub mod Joins
pub mod Splitting
pub mod RunLemmas
pub mod Ranges
mod CallLemmas
