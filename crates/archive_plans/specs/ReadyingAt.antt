-- How a plan with places of its own is made ready to be stored.
use Rattle.std.specs.Prelude.{◌≡◌, ◌⊎◌, ℕ, ◌+◌, ◌-◌, ◌<◌, ◌≤◌, List, length}
use Rattle.std.specs.List.{AllZip}
use Rattle.journal_gates.specs.Records.{gate_bytes}
use Rattle.base_types.specs.Limits.{limit_of}
use Rattle.base_types.specs.declared.extent.Extent.{Extent}
use Rattle.base_types.specs.declared.posting.Posting.{Posting}
use Rattle.base_types.specs.declared.which.Which.TheVariants.{Journal}
use Rattle.journal_entries.specs.declared.plan.PlanEntry.{PlanEntry}
use Rattle.pages_sublists.specs.PlacedAt.{IsPlaceFault}
use Rattle.pages_sublists.specs.Preparing.{IsFor, spellings}
use Rattle.pages_sublists.specs.Segments.{seconds}
use Rattle.pages_sublists.specs.declared.why.PlaceError.{PlaceError}
use Rattle.pages_sublists.specs.declared.why.PlaceError.TheVariants.{Memory}
use Rattle.archive_plans.specs.declared.readying.Ready.{Ready}

-- the bytes of the sublists of a plan, from the list of its word up to its horizon
abbrev pub sublists_of : PlanEntry → List Posting → List (List ℕ)
sublists_of plan list = spellings plan.layout list (seconds plan.cuts) plan.horizon.seconds

-- What is ready to be stored of a plan with places of its own: its entry, for which the journal of this end has room; and the sublists in its places.
pub record IsReadyAt (plan : PlanEntry) (list : List Posting) (body : List ℕ) (end : ℕ) (ready : Ready) : Type 0 where
  pub gate_is : ready.stored.gate ≡ end - 1
  pub plan_is : ready.stored.plan ≡ plan
  pub places_are : ready.prepared.places ≡ plan.places
  pub spelled : ready.prepared.spellings ≡ sublists_of plan list
  pub each : AllZip IsFor ready.prepared.places ready.prepared.spellings
  pub framed : ready.frame ≡ body
  pub bytes_are : ready.bytes ≡ length ready.frame
  pub fits : end + gate_bytes + length ready.frame ≤ limit_of Journal

-- why it isn't made ready: a place fails a test, or the journal has no room
abbrev pub IsUntaken : PlanEntry → List Posting → List Extent → ℕ → ℕ → Type 0
IsUntaken plan list taken end bytes = ((why : PlaceError) × (why ≡ Memory → ⊥) × IsPlaceFault taken plan.places (sublists_of plan list) why)
    ⊎ (limit_of Journal < end + gate_bytes + bytes)
