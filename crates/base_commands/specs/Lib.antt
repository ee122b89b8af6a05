pub mod Batches
pub mod Documents
pub mod Phrases
