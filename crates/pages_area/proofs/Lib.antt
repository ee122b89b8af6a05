pub mod CacheLawLemmas
mod CacheLemmas
pub mod ChangeLemmas
mod CountLemmas
mod EdgeLemmas
mod EntryLemmas
pub mod OrderLemmas
mod PieceLemmas
pub mod PlacingLemmas
mod ReadLemmas
mod RunLemmas
mod SizeLemmas
pub mod StayLemmas
pub mod TakenLemmas
pub mod WroteLemmas
