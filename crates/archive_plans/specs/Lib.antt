pub mod Framing
pub mod Segments
pub mod Shelves
pub mod Readying
pub mod ReadyingAt
