pub mod Causes
pub mod Headline
pub mod Serving
pub mod Statuses
pub mod Outcomes
pub mod Sampling
pub mod Exporting
pub mod Following
