use Rattle.std.proofs.Common.{◌≡◌, ◌≤◌, ◌*◌, ◌^◌, length, take}
use Rattle.std.specs.Prelude.{sum_by}
use Rattle.archive_questions.proofs.sharing.postings.Given as goal

abbrev pub invariant-loop-word : goal.invariant-loop-word
invariant-loop-word l = (l.postings ≡ sum_by (λ s. length s.list.items) (take l.word-index l.sealed)) × (l.postings ≤ 2 ^ 38 * l.word-index)
