use Rattle.std.proofs.Common.{◌-◌, arith}
use Rattle.std.proofs.Math.Nat.{pow-le-pow_right}
use Rattle.pages_codec.proofs.NumberLemmas.{low_bound, pow_one_more}
use Rattle.pages_codec.proofs.numbers.+long_number.Goals as goal

pub returns-then-low-lt128-clause-bound : goal.returns-then-low-lt128-clause-bound
returns-then-low-lt128-clause-bound t c = low_bound c.args.most c.in-Some.low.now (omega arith) c.if-low-lt128.true

pub overflow_mul-result : goal.overflow_mul-result
overflow_mul-result t c = omega (arith, c.in-Some-long_number.ensures.bound, pow-le-pow_right {n = 128} (omega arith) {i = c.args.most - 1} {j = 5} (omega (arith, c.requires)))

pub overflow_add-result : goal.overflow_add-result
overflow_add-result t c = omega (arith, c.in-Some-long_number.ensures.bound, pow-le-pow_right {n = 128} (omega arith) {i = c.args.most - 1} {j = 5} (omega (arith, c.requires)))

pub returns-clause-bound : goal.returns-clause-bound
returns-clause-bound t c = omega (arith, c.in-Some-long_number.ensures.bound, pow_one_more c.args.most (omega arith))
