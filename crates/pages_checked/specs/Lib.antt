pub mod Layouts
pub mod Checking
pub mod Unchecked
pub mod Weights
