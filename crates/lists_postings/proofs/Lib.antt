pub mod Clipping
pub mod Coalesced
mod Joins
pub mod Counts
pub mod Elements
pub mod Existence
pub mod Frequencies
mod Joining
pub mod Laid
pub mod Longest
pub mod Merged
pub mod Order
pub mod Pieces
mod Sorted
pub mod Spans
pub mod Stable
pub mod StretchExistence
pub mod StretchWindows
mod Windows
