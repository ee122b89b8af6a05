mod Blocked
mod ByWord
pub mod Followed
mod Gathered
mod Holding
mod Located
mod Open
mod Passed
mod Turned
mod Within
mod Words
