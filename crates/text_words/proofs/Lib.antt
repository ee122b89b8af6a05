mod KeyLemmas
mod RunLemmas
pub mod CountLemmas
pub mod FrequencyLemmas
pub mod WordLemmas
pub mod NumberingLemmas
mod CutLemmas
mod WeighLemmas
mod TallyLemmas
pub mod NewLemmas
pub mod WeightLemmas
