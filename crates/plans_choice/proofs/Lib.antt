mod ChoiceLemmas
mod JudgingLemmas
