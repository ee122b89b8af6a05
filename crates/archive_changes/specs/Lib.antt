pub mod Adding
pub mod After
pub mod Endings
