-- Runs over the commands of samples have one report.
use Rattle.std.proofs.Common.{◌≡◌, List, [], ◌∷◌, ◌++◌, map, refl, ap, subst, sym, ◌∙◌}
use Rattle.std.proofs.lemmas.List.{same_from_push}
use Rattle.base_commands.specs.declared.command.Command.{Command}
use Rattle.base_commands.specs.declared.command.Command.TheVariants as plain
use Rattle.base_commands.specs.declared.command.Item.TheVariants as items
use Rattle.model_archive.specs.declared.verdict.Verdict.{Verdict}
use Rattle.model_archive.specs.Steps.{Reply, Verified, Step}
use Rattle.model_archive.specs.Runs.{Outcome, IsRun}
use Rattle.model_archive.specs.Worlds.{World}
use Rattle.archive_replies.specs.Tallies.{tally_of}
use Rattle.archive_replies.specs.declared.tally.Tally.{Tally}
use Rattle.run_sample.specs.Filling.{replies_of}
use Rattle.run_sample.specs.Laws.{ReportsAreOne, RunsHaveReports}
use Rattle.run_sample.proofs.FillLemmas.{sample_ends}

-- the last reply of a run whose last command is a check
checked_last : (front : List Command) (w : World) (outcomes : List (Outcome Reply World)) → IsRun Step w (map items.Command (front ++ plain.Verify ∷ [])) outcomes
    → (before : List Reply) × (verdict : Verdict) × (replies_of outcomes ≡ before ++ Verified verdict ∷ [])
checked_last [] w [] run = absurd run
checked_last [] w (outcome ∷ []) run = ([], run.0.0.1.0, ap (λ (r : Reply). r ∷ []) run.0.0.1.2)
checked_last [] w (outcome ∷ next ∷ outcomes) run = absurd run.1
checked_last (command ∷ front) w [] run = absurd run
checked_last (command ∷ front) w (outcome ∷ outcomes) run =
    let is = checked_last front outcome.next outcomes run.1 in
    (outcome.reply ∷ is.0, is.1, ap (λ (l : List Reply). outcome.reply ∷ l) is.2)

pub reports : RunsHaveReports
reports seed count w outcomes run =
    let ends = sample_ends seed count in
    let R : List Command → Type 0 = λ l. IsRun Step w (map items.Command l) outcomes in
    let is = checked_last ends.0 w outcomes (subst R ends.1 run) in
    (record { tally = tally_of (replies_of outcomes); verdict = is.1 }, record { tally_is = refl; front = is.0; ends = is.2 })

pub one_report : ReportsAreOne
one_report replies one other is was =
    let same = same_from_push is.front was.front (Verified one.verdict) (Verified other.verdict) (sym is.ends ∙ was.ends) in
    let verdict : one.verdict ≡ other.verdict = cc in
    ap (λ (t : Tally). record { tally = t; verdict = one.verdict }) (is.tally_is ∙ sym was.tally_is) ∙ ap (λ (v : Verdict). record { tally = other.tally; verdict = v }) verdict
