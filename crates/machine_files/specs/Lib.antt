pub mod Stores
pub mod Telling
pub mod Meaning
pub mod Laws
pub mod Opening
