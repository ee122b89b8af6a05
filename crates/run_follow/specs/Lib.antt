pub mod Exporting
pub mod Causes
