pub mod Bests
pub mod Cuts
pub mod Narrow
pub mod Ordering
pub mod Places
pub mod Pushing
pub mod Queues
mod Reaching
pub mod Sums
pub mod Tables
pub mod Walk
