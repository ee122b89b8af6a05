mod SampleLemmas
pub mod LawLemmas
