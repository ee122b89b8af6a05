pub mod Boundaries
pub mod Counts
pub mod Laws
pub mod Partitions
pub mod Reaches
pub mod Windows
