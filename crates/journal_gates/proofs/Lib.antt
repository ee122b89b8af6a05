pub mod SpellingLemmas
mod WriteLemmas
mod TornLemmas
pub mod InStepLemmas
mod AppendLemmas
mod PagesLemmas
pub mod HeadLemmas
mod WindowLemmas
pub mod BodyLemmas
mod GateLemmas
mod ScanLemmas
pub mod LoadLemmas
mod StepLemmas
mod Examples
