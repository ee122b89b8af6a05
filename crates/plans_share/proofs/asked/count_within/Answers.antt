use Rattle.std.proofs.Common.{arith, ◌<◌}
use Rattle.plans_share.proofs.Counts.{count-split}
use Rattle.plans_share.proofs.asked.count_within.Goals as goal

pub overflow_sub-result : goal.overflow_sub-result
overflow_sub-result c =
    let o : c.args.span.from < c.args.span.to = c.args.span.ordered in
    omega (arith, count-split c.args.span.from c.args.span.to c.args.numbers.now (omega (arith, o)), c.count_below-before_end.ensures.value, c.count_below-before_start.ensures.value)

pub returns-clause-value : goal.returns-clause-value
returns-clause-value c =
    let o : c.args.span.from < c.args.span.to = c.args.span.ordered in
    omega (arith, count-split c.args.span.from c.args.span.to c.args.numbers.now (omega (arith, o)), c.count_below-before_end.ensures.value, c.count_below-before_start.ensures.value)
