-- The plans of a history that are live: of each word the one that was stored last. With each stands where its entry lies in the journal.
use Rattle.std.specs.Prelude.{ℕ, ◌+◌, Bool, not, bytes_eq, List, [], ◌∷◌, ◌++◌, length, map, filter, sum_by, Option, Some, None}
use Rattle.std.specs.List.{flat_map}
use Rattle.base_types.specs.declared.extent.Extent.{Extent}
use Rattle.journal_gates.specs.Records.{first_gate, gate_bytes}
use Rattle.journal_entries.specs.Spelling.{spelling}
use Rattle.journal_entries.specs.declared.entry.Entry.{Entry}
use Rattle.journal_entries.specs.declared.entry.Entry.TheVariants.{Planned}
use Rattle.journal_entries.specs.declared.plan.PlanEntry.{PlanEntry}
use Rattle.model_archive.specs.declared.stored.StoredPlan.{StoredPlan}
use Rattle.model_archive.specs.Histories.{History}

-- the entry is no plan
abbrev pub IsNoPlan : Entry → Type 0
IsNoPlan (Planned plan) = ⊥
IsNoPlan other = Unit {0}

-- the plan is another word's
abbrev pub is_another : List ℕ → StoredPlan → Bool
is_another word stored = not (bytes_eq stored.plan.word word)

-- a plan comes last, and the one that its word had is live no more
abbrev pub with_plan : List StoredPlan → StoredPlan → List StoredPlan
with_plan live stored = filter (is_another stored.plan.word) live ++ stored ∷ []

-- the live plans after one entry more, whose gate lies at this place of the journal
abbrev pub with_entry : ℕ → List StoredPlan → Entry → List StoredPlan
with_entry gate live (Planned plan) = with_plan live (record { gate = gate; plan = plan })
with_entry gate live other = live

-- the live plans after more entries, of which the first has its gate at this place; an entry takes a gate, a length and its spelling
abbrev pub live_after : ℕ → List StoredPlan → History → List StoredPlan
live_after gate live [] = live
live_after gate live (entry ∷ entries) = live_after (gate + gate_bytes + length (spelling entry)) (with_entry gate live entry) entries

-- the live plans of a history, in the order of their entries
abbrev pub live_plans : History → List StoredPlan
live_plans history = live_after first_gate [] history

-- how many segments these plans have together
abbrev pub segments_of : List StoredPlan → ℕ
segments_of plans = sum_by (λ stored. length stored.plan.cuts) plans

-- the plan of the first, where there is one
abbrev pub first_plan : List StoredPlan → Option PlanEntry
first_plan [] = None
first_plan (stored ∷ live) = Some stored.plan

-- the live plan of a word
abbrev pub plan_of : History → List ℕ → Option PlanEntry
plan_of history word = first_plan (filter (λ stored. bytes_eq stored.plan.word word) (live_plans history))

-- the extents of a plan's places, in the order of its segments
abbrev pub extents_of : PlanEntry → List Extent
extents_of plan = map (λ place. place.extent) plan.places

-- the extents of the places of all live plans
abbrev pub live_extents : History → List Extent
live_extents history = flat_map (λ stored. extents_of stored.plan) (live_plans history)

-- for each of these extents the gate of its plan's entry
abbrev pub live_gates : History → List ℕ
live_gates history = flat_map (λ stored. map (λ extent. stored.gate) (extents_of stored.plan)) (live_plans history)
