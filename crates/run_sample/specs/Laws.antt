-- What holds of runs over the commands of samples.
use Rattle.std.specs.Prelude.{◌≡◌, ℕ, List, map}
use Rattle.base_commands.specs.declared.command.Item.TheVariants as items
use Rattle.base_sample.specs.Samples.{sample_of}
use Rattle.model_archive.specs.Steps.{Reply, Step}
use Rattle.model_archive.specs.Runs.{Outcome, IsRun}
use Rattle.model_archive.specs.Worlds.{World}
use Rattle.run_sample.specs.Filling.{IsReport, replies_of}
use Rattle.run_sample.specs.declared.report.Report.{Report}

-- A run over the commands of a sample has a report, from whatever state: its last command is a check.
abbrev pub RunsHaveReports : Type 0
RunsHaveReports = (seed count : ℕ) (world : World) (outcomes : List (Outcome Reply World))
    → IsRun Step world (map items.Command (sample_of seed count)) outcomes
    → (report : Report) × IsReport (replies_of outcomes) report

-- Replies have one report at most.
abbrev pub ReportsAreOne : Type 0
ReportsAreOne = (replies : List Reply) (one other : Report) → IsReport replies one → IsReport replies other → one ≡ other
