-- What stands in Pages for the live plans of a history.
use Rattle.std.specs.Prelude.{ℕ, List, All}
use Rattle.base_types.specs.declared.posting.Posting.{Posting}
use Rattle.pages_area.specs.Taken.{AreApart}
use Rattle.journal_entries.specs.declared.plan.PlanEntry.{PlanEntry}
use Rattle.pages_sublists.specs.Segments.{seconds, EachSegment, HoldsSublist}
use Rattle.model_archive.specs.Histories.{History}
use Rattle.model_archive.specs.Planning.{IsListUpTo}
use Rattle.model_archive.specs.Plans.{live_plans, live_extents}

-- each place of a plan holds the sublist of its segment, from the word's list up to the plan's horizon, and has the sublist's digest
pub record HoldsPlan (history : History) (pages : List ℕ) (plan : PlanEntry) : Type 0 where
  pub list : List Posting
  pub list_is : IsListUpTo history plan.word plan.horizon.seconds list
  pub each : EachSegment (HoldsSublist plan.layout list pages) (seconds plan.cuts) plan.horizon.seconds plan.places

-- no page belongs to two live places, and each live plan's places hold its sublists
pub record HoldsPlans (history : History) (pages : List ℕ) : Type 0 where
  pub apart : AreApart (live_extents history)
  pub each : All (λ stored. HoldsPlan history pages stored.plan) (live_plans history)
