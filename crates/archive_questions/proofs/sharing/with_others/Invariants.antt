use Rattle.std.proofs.Common.{◌≡◌, ◌++◌}
use Rattle.std.specs.Prelude.{filter}
use Rattle.archive_questions.specs.Sharers.{stands_apart}
use Rattle.archive_questions.proofs.sharing.with_others.Given as goal

abbrev pub invariant-loop-sealed : goal.invariant-loop-sealed
invariant-loop-sealed l = l.words.items ≡ l.fn.words.items ++ filter (stands_apart l.word) l.yielded
