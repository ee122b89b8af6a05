pub mod Certificates
pub mod Edges
pub mod Lefts
pub mod Refusals
pub mod Steps
