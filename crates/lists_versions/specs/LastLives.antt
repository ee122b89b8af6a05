-- The last life of a document.
use Rattle.std.specs.Prelude.{◌↔◌, ℕ, ◌<◌, ◌≤◌, List, IsSome, IfSome}
use Rattle.base_types.specs.declared.ids.DocId.{DocId}
use Rattle.base_types.specs.declared.text_place.TextPlace.{TextPlace}
use Rattle.lists_versions.specs.declared.change.Change.{Change}
use Rattle.lists_versions.specs.declared.last_life.LastLife.{LastLife}
use Rattle.lists_versions.specs.Changes.{held_at}

-- a life isn't over at a time
abbrev pub LastsAt : LastLife → ℕ → Type 0
LastsAt life t = IfSome life.until (λ end. t < end.seconds)

-- from its last life's start on, a document is alive exactly until that life is over
abbrev pub IsLastLife : DocId → List (Change TextPlace) → LastLife → Type 0
IsLastLife doc log life = (t : ℕ) → life.since.seconds ≤ t → (IsSome (held_at doc t log) ↔ LastsAt life t)
