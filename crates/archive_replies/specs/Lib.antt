pub mod Pages
pub mod Tallies
pub mod Findings
