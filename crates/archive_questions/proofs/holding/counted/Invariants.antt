use Rattle.std.specs.Prelude.{◌≡◌, ◌+◌, sum_by, take}
use Rattle.archive_questions.proofs.holding.counted.Given as goal

abbrev pub invariant-loop-head : goal.invariant-loop-head
invariant-loop-head l = l.postings ≡ sum_by (λ h. h.count) (take l.head-index l.heads) + l.more
