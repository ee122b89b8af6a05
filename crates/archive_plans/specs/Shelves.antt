-- Live plans in hand, the extents of their places, and when these lie badly.
use Rattle.std.specs.Prelude.{◌≡◌, ℕ, ◌+◌, ◌^◌, ◌<◌, ◌≤◌, List, map, take, length, get_or, sum_by, All}
use Rattle.std.specs.List.{flat_map}
use Rattle.base_types.specs.declared.extent.Extent.{Extent}
use Rattle.pages_area.specs.Live.{AreLive, IsInside}
use Rattle.pages_area.specs.Taken.{PagesState}
use Rattle.pages_area.specs.Caches.{Kept}
use Rattle.journal_entries.specs.declared.plan.PlanEntry.{PlanEntry}
use Rattle.model_archive.specs.declared.stored.StoredPlan.{StoredPlan}
use Rattle.model_archive.specs.Plans.{extents_of}

-- live plans in hand, which pages are free, the pages that are kept, and for how many more plans there is room
pub record ShelfState : Type 0 where
  pub plans : List StoredPlan
  pub pages : PagesState
  pub cache : List Kept
  pub room : ℕ

-- the extents of the places of plans
abbrev pub extents_all : List StoredPlan → List Extent
extents_all plans = flat_map (λ stored. extents_of stored.plan) plans

-- for each place of plans, the gate of its plan's entry
abbrev pub gates_all : List StoredPlan → List ℕ
gates_all plans = flat_map (λ stored. map (λ extent. stored.gate) (extents_of stored.plan)) plans

-- the first place in order that doesn't lie in so many bytes or shares a page with an earlier one is of the entry with this gate
pub record IsBadShelf (plans : List StoredPlan) (reach at : ℕ) : Type 0 where
  pub index : ℕ
  pub inside : index < length (extents_all plans)
  pub good : AreLive (take index (extents_all plans)) reach
  pub bad : AreLive (take (index + 1) (extents_all plans)) reach → ⊥
  pub at_is : at ≡ get_or (gates_all plans) index 0

-- what is asked of a plan that is read: each cut has its place, and all places lie in so many bytes and have no more of them than are counted
pub record IsReadable (reach : ℕ) (plan : PlanEntry) : Type 0 where
  pub as_many : length plan.places ≡ length plan.cuts
  pub inside : All (λ p. IsInside reach p.extent) plan.places
  pub few : sum_by (λ p. p.extent.bytes) plan.places ≤ 2 ^ 60
