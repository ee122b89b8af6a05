-- An archive that is opened to be audited.
use Rattle.std.specs.Prelude.{◌≡◌, ◌≤◌}
use Rattle.journal_gates.specs.Records.{first_gate}
use Rattle.machine_model.specs.Areas.{Both}
use Rattle.std.specs.Prelude.{ℕ}
use Rattle.pages_area.specs.Live.{AreLive}
use Rattle.model_archive.specs.Histories.{History, end_of}
use Rattle.model_archive.specs.Legal.{IsLoadable}
use Rattle.model_archive.specs.Plans.{live_plans, live_extents}
use Rattle.archive_entries.specs.Places.{ArePlaced}
use Rattle.run_audit.specs.declared.opening.Opened.{Opened}

-- it is that of a history that loads, on a disk of these lengths: its journal ends where the history's does, and these are the changes with the
-- places of the texts, and the live plans, whose places lie inside Pages with no page of two
pub record IsOpened (history : History) (reach : Both ℕ) (opened : Opened) : Type 0 where
  pub loadable : IsLoadable history
  pub end_is : opened.journal.end ≡ end_of history
  pub within : opened.journal.end ≤ reach.journal
  pub placed : ArePlaced first_gate history opened.directory.changes
  pub plans_are : opened.shelf.plans ≡ live_plans history
  pub live : AreLive (live_extents history) reach.pages
