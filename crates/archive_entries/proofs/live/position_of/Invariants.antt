-- No plan so far is of the word.
use Rattle.std.proofs.Common.{◌≡◌, true, take, All}
use Rattle.model_archive.specs.Plans.{is_another}
use Rattle.archive_entries.proofs.live.position_of.Given as goal

abbrev pub invariant-loop-at : goal.invariant-loop-at
invariant-loop-at l = All (λ s. is_another l.word s ≡ true) (take l.at l.plans)
