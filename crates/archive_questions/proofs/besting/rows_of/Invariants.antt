use Rattle.std.specs.Prelude.{◌≡◌, map, take}
use Rattle.archive_questions.specs.Bests.{eval_row}
use Rattle.archive_questions.proofs.besting.rows_of.Given as goal

abbrev pub invariant-loop-row : goal.invariant-loop-row
invariant-loop-row l = l.rows.items ≡ map eval_row (take l.row-index l.found.rows.items)
