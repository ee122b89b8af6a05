pub mod Words
pub mod Indexing
pub mod Newest
pub mod Turned
pub mod Measuring
pub mod Indexes
pub mod Loads
pub mod NewWords
