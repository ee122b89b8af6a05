mod Cheapest
pub mod Proved
mod Settling
mod Ways
