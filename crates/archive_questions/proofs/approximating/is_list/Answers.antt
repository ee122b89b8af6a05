use Rattle.std.proofs.Common.{arith}
use Rattle.archive_questions.proofs.RoughLemmas.{neighbours}
use Rattle.archive_questions.proofs.approximating.is_list.Goals as goal

pub returns : goal.returns
returns c = λ t. neighbours c.args.postings.now (λ k d l. c.loop-i.invariant k d (omega (arith, l, c.loop-i-test.false)))
