pub mod ShelfLemmas
mod ReadyLemmas
pub mod BadLemmas
pub mod SegmentLemmas
