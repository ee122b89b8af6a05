pub mod Numbers
pub mod Words
pub mod Errors
pub mod Plain
pub mod Laws
