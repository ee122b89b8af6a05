-- What is read of the segment of a plan that has a time, by the headers of its blocks.
use Rattle.std.specs.Prelude.{◌≡◌, ℕ, ◌+◌, true, List, [], ◌∷◌, ◌++◌, Contains, Option, Some, None}
use Rattle.std.specs.List.Sorted.{IsStrictlyIncreasing}
use Rattle.journal_entries.specs.declared.plan.PlanEntry.{PlanEntry}
use Rattle.pages_sublists.specs.Framing.{IsFramed, IsUnframed}
use Rattle.pages_sublists.specs.Gathering.{Chosen, bytes_of, chosen}
use Rattle.pages_sublists.specs.Segments.{seconds}
use Rattle.pages_sublists.specs.declared.why.Damage.{Damage}
use Rattle.archive_plans.specs.declared.framing.SegmentFrames.{SegmentFrames}

-- the segments of the plan stand in turn
abbrev pub AreInTurn : PlanEntry → Type 0
AreInTurn plan = IsStrictlyIncreasing (seconds plan.cuts ++ plan.horizon.seconds ∷ [])

-- the segments that have the time, which is one at most where they stand in turn
abbrev pub chosen_at : PlanEntry → ℕ → List Chosen
chosen_at plan t = chosen t (t + 1) plan.horizon.seconds true (seconds plan.cuts) plan.places

-- these are the headers of the segment's place, as reads give its bytes
pub record AreFramesAt (pages : List ℕ) (c : Chosen) (s : SegmentFrames) : Type 0 where
  pub page : s.page ≡ c.place.extent.first
  pub from : s.span.from ≡ c.from
  pub to : s.span.to ≡ c.to
  pub framed : IsFramed c.place.digest (bytes_of c pages) s.frames

-- what is read of the segment that has the time, if there is one
abbrev pub IsFramedAt : List ℕ → PlanEntry → ℕ → Option SegmentFrames → Type 0
IsFramedAt pages plan t None = chosen_at plan t ≡ []
IsFramedAt pages plan t (Some s) = (c : Chosen) × (chosen_at plan t ≡ c ∷ []) × AreFramesAt pages c s

-- this is damaged of the place of a segment that has the time
abbrev pub IsUnframedAt : List ℕ → PlanEntry → ℕ → Damage → Type 0
IsUnframedAt pages plan t damage = (c : Chosen) × Contains (chosen_at plan t) c × (damage.page ≡ c.place.extent.first)
    × IsUnframed c.place.digest (bytes_of c pages) damage.why
