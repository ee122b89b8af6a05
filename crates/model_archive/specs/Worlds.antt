-- The state of the abstract archive.
use Rattle.std.specs.Prelude.{ℕ, Bool, List, [], ◌++◌, Option, Some, None, is_some}
use Rattle.base_types.specs.declared.extent.Extent.{Extent}
use Rattle.plans_share.specs.declared.asked.Asking.{Asking}
use Rattle.journal_entries.specs.declared.plan.PlanEntry.{PlanEntry}
use Rattle.model_archive.specs.Histories.{History}
use Rattle.model_archive.specs.Plans.{extents_of, live_extents}

-- A plan that is written while other commands go on: what its entry will be, how many postings its sublists have together, how many the word's list
-- has up to the horizon, and how many of its pages aren't written yet.
pub record Job : Type 0 where
  pub plan : PlanEntry
  pub space : ℕ
  pub full : ℕ
  pub left : ℕ

-- The state of the machine that an archive is: what it goes on from. That is the history; the words with the times for which this run was asked of
-- them, as far as they are noted (the first 2^20); and a plan that is being written, if one is.
pub record World : Type 0 where
  pub history : History
  pub asked : List Asking
  pub job : Option Job

-- the state from which a run begins over an archive of this history: nothing was asked, and no plan is under way
abbrev pub world_of : History → World
world_of history = record { history = history; asked = []; job = None }

-- a plan is being written
abbrev pub at_work : World → Bool
at_work world = is_some world.job

-- the extents of its places
abbrev pub job_extents : Option Job → List Extent
job_extents None = []
job_extents (Some job) = extents_of job.plan

-- the extents whose pages may not be taken: those of the plan that is being written, and those of the live plans
abbrev pub taken_in : Option Job → History → List Extent
taken_in job history = job_extents job ++ live_extents history
