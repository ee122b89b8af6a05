mod RoomLemmas
mod PlacedLemmas
mod JobLemmas
mod StepLemmas
mod CaseLemmas
mod LeaderLemmas
mod ExportLemmas
