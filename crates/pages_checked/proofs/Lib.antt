pub mod Longer
mod WeightLemmas
