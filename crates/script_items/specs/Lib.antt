pub mod Groups
pub mod Gathered
pub mod Putting
pub mod Items
pub mod Reading
