pub mod Filling
pub mod Carrying
pub mod Laws
