pub mod Places
pub mod Entries
pub mod Texts
pub mod Live
pub mod Replaying
pub mod Batches
pub mod Causes
