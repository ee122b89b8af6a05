pub mod Reading
pub mod Held
pub mod Opening
