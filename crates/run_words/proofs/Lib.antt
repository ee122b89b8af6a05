mod NumberLemmas
mod ReadLemmas
mod LawLemmas
mod PlainLemmas
