mod Listed
pub mod Latest
mod Known
pub mod Indexed
pub mod Mapped
pub mod Valid
mod Lasting
mod Steps
mod Reaching
mod Noting
mod Ascending
pub mod Holding
pub mod Alive
mod Changing
mod OfDocuments
mod Comings
