pub mod Causes
pub mod Answering
pub mod After
pub mod Endings
pub mod Bests
pub mod Sharers
