mod CarryLemmas
mod FillLemmas
pub mod LawLemmas
