pub mod Equal
pub mod TimeLemmas
pub mod Bytes
pub mod Readings
