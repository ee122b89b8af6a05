pub mod Statuses
pub mod Opened
pub mod Audits
pub mod Laws
