pub mod Terms
pub mod Words
pub mod Rows
pub mod Weighing
