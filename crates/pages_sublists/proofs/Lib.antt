mod GatherLemmas
mod AskLemmas
pub mod KeptLemmas
pub mod PlaceLemmas
pub mod WriteLemmas
pub mod PagedLemmas
pub mod StintLemmas
pub mod HoldLemmas
mod UnionLemmas
mod JoinLemmas
mod FetchLemmas
mod OneGathering
pub mod HeldLemmas
pub mod SpellLemmas
mod AtLemmas
