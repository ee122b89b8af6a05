pub mod Caps
pub mod Costs
pub mod Laws
pub mod Loads
pub mod Plans
pub mod Steps
