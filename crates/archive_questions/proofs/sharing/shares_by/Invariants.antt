use Rattle.std.proofs.Common.{◌≡◌, ◌++◌, drop}
use Rattle.model_archive.specs.Sharing.{shares_of}
use Rattle.archive_questions.specs.Sharers.{sharers}
use Rattle.archive_questions.proofs.sharing.shares_by.Given as goal

abbrev pub invariant-loop-index : goal.invariant-loop-index
invariant-loop-index l = l.shares.items ++ shares_of (sharers (drop l.index l.sealed)) (drop l.index l.offers) (drop l.index l.choice.picks.items) ≡ shares_of (sharers l.sealed) l.offers l.choice.picks.items
