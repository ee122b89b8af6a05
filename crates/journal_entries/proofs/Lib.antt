mod Steps
mod FieldLemmas
mod FieldCodec
mod NumberLemmas
mod PlanFieldLemmas
mod SegmentLemmas
mod ChangeLemmas
mod Stops
mod FieldStops
mod PlanLemmas
mod ActLemmas
mod BatchLemmas
mod BatchStops
pub mod EntryLemmas
pub mod FaultLemmas
