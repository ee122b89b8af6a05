mod ReadingLemmas
mod OpeningLemmas
