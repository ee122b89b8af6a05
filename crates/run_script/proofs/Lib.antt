mod OutcomeLemmas
mod StintLemmas
mod PullLemmas
mod SampleLemmas
mod ServeLemmas
mod StandingLemmas
mod ExportLemmas
mod FollowLemmas
