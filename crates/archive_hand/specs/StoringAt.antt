-- How a plan of another archive is stored in its own places.
use Rattle.std.specs.Prelude.{◌≡◌, ◌≤◌, List, [], ◌∷◌, ◌++◌, Option}
use Rattle.std.specs.List.{AllZip}
use Rattle.machine_model.specs.States.{DiskState}
use Rattle.base_types.specs.Limits.{limit_of}
use Rattle.base_types.specs.declared.posting.Posting.{Posting}
use Rattle.base_types.specs.declared.which.Which.TheVariants.{Journal}
use Rattle.journal_entries.specs.declared.entry.Entry.TheVariants as entries
use Rattle.journal_entries.specs.declared.plan.PlanEntry.{PlanEntry}
use Rattle.pages_area.specs.Taken.{AreApart}
use Rattle.pages_sublists.specs.Preparing.{IsFor, extents}
use Rattle.model_archive.specs.Histories.{History, end_of}
use Rattle.model_archive.specs.Worlds.{Job, taken_in}
use Rattle.archive_plans.specs.ReadyingAt.{sublists_of}
use Rattle.archive_hand.specs.Stored.{Store, Stocks}
use Rattle.archive_hand.specs.Changing.{LeadsBy}

-- A plan's own places are for its sublists and share no page with each other or with what is taken, and the journal has room for its entry.
pub record HasOwnPlaces (job : Option Job) (history : History) (plan : PlanEntry) (list : List Posting) : Type 0 where
  pub each : AllZip IsFor plan.places (sublists_of plan list)
  pub apart : AreApart (extents plan.places ++ taken_in job history)
  pub fits : end_of (history ++ entries.Planned plan ∷ []) ≤ limit_of Journal

-- a plan comes behind a history, with its sublists in its own places of Pages
pub record IsPutBy (store next : Store) (plan : PlanEntry) (old new : DiskState) : Type 0 where
  pub job_is : next.job ≡ store.job
  pub next_is : next.history ≡ store.history ++ entries.Planned plan ∷ []
  pub stocks : Stocks store next
  pub leads : LeadsBy store next old new
