pub mod Verdicts
pub mod Checked
pub mod Digests
pub mod Checking
pub mod Laws
pub mod Rows
