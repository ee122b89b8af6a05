mod BestLemmas
pub mod CapLemmas
mod CellLemmas
mod CostLemmas
mod CourseLemmas
mod CutLemmas
mod FrontLemmas
pub mod FunctionLemmas
pub mod LeastLemmas
mod LegLemmas
mod PlanLemmas
pub mod ShortLemmas
mod StopLemmas
pub mod ThereIsABest
mod WeightLemmas
mod JudgeLemmas
