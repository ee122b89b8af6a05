pub mod Following
pub mod Serving
pub mod Laws
