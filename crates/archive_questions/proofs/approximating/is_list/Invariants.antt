use Rattle.std.proofs.Common.{ℕ, suc, ◌<◌, get_or}
use Rattle.base_types.specs.declared.posting.Posting.{Posting}
use Rattle.lists_postings.specs.Lists.{ComesBefore}
use Rattle.archive_questions.proofs.approximating.is_list.Given as goal

abbrev pub invariant-loop-i : goal.invariant-loop-i
invariant-loop-i l = (k : ℕ) (d : Posting) → suc k < l.i → ComesBefore (get_or l.postings k d) (get_or l.postings (suc k) d)
