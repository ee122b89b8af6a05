use Rattle.std.proofs.Common.{take, All}
use Rattle.lists_index.specs.Indexes.{state_of, Indexes}
use Rattle.model_archive.specs.Histories.{History, changes}
use Rattle.archive_entries.specs.Replaying.{IsFitIn}
use Rattle.archive_entries.proofs.replaying.first_unfit.Given as goal

abbrev pub invariant-loop-stored : goal.invariant-loop-stored
invariant-loop-stored l = (h : History) → Indexes (state_of l.fn.index) (changes h) → All (IsFitIn h) (take l.stored-index l.plans)
