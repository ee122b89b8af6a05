mod AddLemmas
mod TakeLemmas
mod BatchLemmas
mod PlanLemmas
mod BeginLemmas
