mod WrittenLemmas
mod FaultLemmas
mod GrowthLemmas
mod CallLemmas
mod PushLemmas
mod PickLemmas
mod RecallLemmas
