-- How a plan is made ready to be stored.
use Rattle.std.specs.Prelude.{◌≡◌, ◌⊎◌, ℕ, ◌+◌, ◌-◌, ◌<◌, ◌≤◌, List, length}
use Rattle.journal_gates.specs.Records.{gate_bytes}
use Rattle.std.specs.List.{AllZip}
use Rattle.base_types.specs.Limits.{limit_of}
use Rattle.base_types.specs.declared.extent.Extent.{Extent}
use Rattle.base_types.specs.declared.which.Which.TheVariants.{Journal, Pages}
use Rattle.pages_area.specs.Placing.{ArePlaced, HaveNoRoom}
use Rattle.journal_entries.specs.declared.place.Layout.TheVariants.{Blocks}
use Rattle.journal_entries.specs.declared.place.Place.{Place}
use Rattle.journal_entries.specs.declared.plan.PlanEntry.{PlanEntry}
use Rattle.journal_entries.specs.PlanSpelling.{plan_spelling}
use Rattle.pages_sublists.specs.Preparing.{IsFor, extents, sizes, spellings}
use Rattle.pages_sublists.specs.Segments.{seconds}
use Rattle.plans_kinds.specs.Plans.{plan_space}
use Rattle.model_archive.specs.declared.refusal.Refusal.{Refusal}
use Rattle.model_archive.specs.declared.refusal.Refusal.TheVariants as refusals
use Rattle.model_archive.specs.declared.summary.Summary.{Summary}
use Rattle.model_archive.specs.Steps.{in_blocks}
use Rattle.archive_plans.specs.declared.readying.Draft.{Draft}
use Rattle.archive_plans.specs.declared.readying.Ready.{Ready}

-- the plan of a draft, with these places
abbrev pub plan_with : Draft → List Place → PlanEntry
plan_with draft places = in_blocks draft.word draft.kind draft.factor draft.horizon draft.cuts.items places

-- the bytes of a draft's sublists
abbrev pub bytes_of : Draft → List (List ℕ)
bytes_of draft = spellings Blocks draft.list.items (seconds draft.cuts.items) draft.horizon.seconds

-- places for a draft's sublists, where these extents are taken
pub record HasPlaces (draft : Draft) (taken : List Extent) (places : List Place) : Type 0 where
  pub placed : ArePlaced taken (sizes (bytes_of draft)) (extents places)
  pub each : AllZip IsFor places (bytes_of draft)

-- what is told of a draft that is stored
abbrev pub tells_of : Draft → ℕ → Summary
tells_of draft length_now = record {
  length = length_now;
  segments = length draft.cuts.items;
  space = plan_space draft.list.items draft.cuts.items draft.horizon.seconds;
  full = length draft.list.items;
  horizon = draft.horizon;
  cost = draft.cost;
}

-- What is ready to be stored of a draft: its entry, spelled, for which the journal of this end has room; and the sublists with their places.
pub record IsReady (draft : Draft) (end count : ℕ) (ready : Ready) : Type 0 where
  pub gate_is : ready.stored.gate ≡ end - 1
  pub plan_is : ready.stored.plan ≡ plan_with draft ready.prepared.places
  pub spelled : ready.prepared.spellings ≡ bytes_of draft
  pub each : AllZip IsFor ready.prepared.places (bytes_of draft)
  pub framed : ready.frame ≡ plan_spelling ready.stored.plan
  pub bytes_are : ready.bytes ≡ length ready.frame
  pub fits : end + gate_bytes + length ready.frame ≤ limit_of Journal
  pub told : ready.summary ≡ tells_of draft (count + 1)

-- why a draft isn't stored: the pages have no run for a sublist, or the journal has no room for its entry
abbrev pub IsFull : Draft → List Extent → ℕ → Refusal → Type 0
IsFull draft taken end why =
    (HaveNoRoom taken (sizes (bytes_of draft)) × (why ≡ refusals.Full Pages (limit_of Pages)))
    ⊎ ((places : List Place) × (HasPlaces draft taken places
    × (limit_of Journal < end + gate_bytes + length (plan_spelling (plan_with draft places)))
    × (why ≡ refusals.Full Journal (limit_of Journal))))
