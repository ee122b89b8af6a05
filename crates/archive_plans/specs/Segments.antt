-- A segment of a plan, as it is found by a time.
use Rattle.std.specs.Prelude.{◌≡◌, ℕ, [], ◌∷◌, Bool, Option, Some, None}
use Rattle.journal_entries.specs.declared.plan.PlanEntry.{PlanEntry}
use Rattle.pages_sublists.specs.Gathering.{Chosen}
use Rattle.archive_plans.specs.declared.segment.Segment.{Segment}
use Rattle.archive_plans.specs.Framing.{chosen_at}

-- a segment with its place, as it is chosen
abbrev pub chosen_of : Segment → Bool → Chosen
chosen_of s first = record { from = s.span.from; to = s.span.to; place = s.place; first = first }

-- the segment that has the time is this one, if there is one
abbrev pub IsSegmentAt : PlanEntry → ℕ → Option Segment → Type 0
IsSegmentAt plan t None = chosen_at plan t ≡ []
IsSegmentAt plan t (Some s) = (first : Bool) × (chosen_at plan t ≡ chosen_of s first ∷ [])
