mod Steps
mod Readings
mod AllAt
mod FieldLemmas
pub mod LayoutLemmas
pub mod FlatLemmas
mod NumberLemmas
mod BlockLemmas
mod WriteLemmas
mod FrontLemmas
mod BlockLaws
mod BlockWalk
pub mod BlockCodec
mod FrameLemmas
pub mod FramedLemmas
