pub mod ImageLemmas
pub mod MomentLemmas
pub mod PullLemmas
