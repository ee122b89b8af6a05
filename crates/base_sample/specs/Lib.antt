pub mod Samples
pub mod Places
pub mod Laws
pub mod Rows
